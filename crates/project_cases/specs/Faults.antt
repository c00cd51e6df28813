-- Refusals by the readers, as faults. None is: memory was wanting.
use Rattle.std.specs.Prelude.{Option, None, Some}
use Rattle.meta_record.specs.declared.listing_err.ListingErr.{ListingErr}
use Rattle.meta_record.specs.declared.listing_err.ListingErr.TheVariants as listings
use Rattle.pom_grammar.specs.declared.tree.TextErr.{TextErr}
use Rattle.pom_grammar.specs.declared.tree.TextErr.TheVariants as texts
use Rattle.pom_record.specs.declared.pom_err.PomErr.{PomErr}
use Rattle.pom_record.specs.declared.pom_err.PomErr.TheVariants as poms
use Rattle.res_base.specs.declared.reading.ReadFault.{ReadFault}
use Rattle.res_base.specs.declared.reading.ReadFault.TheVariants as faults

abbrev pub text_fault : TextErr → Option ReadFault
text_fault (texts.BadText place) = Some (faults.BadText place)
text_fault (texts.Doctype place) = Some (faults.Doctype place)
text_fault (texts.TooDeep place) = Some (faults.TooDeep place)
text_fault (texts.UnknownEncoding place) = Some (faults.UnknownEncoding place)
text_fault texts.NoMemory = None

abbrev pub pom_fault : PomErr → Option ReadFault
pom_fault (poms.BadText place) = Some (faults.BadText place)
pom_fault (poms.Doctype place) = Some (faults.Doctype place)
pom_fault (poms.TooDeep place) = Some (faults.TooDeep place)
pom_fault (poms.UnknownEncoding place) = Some (faults.UnknownEncoding place)
pom_fault poms.NotProject = Some faults.NotProject
pom_fault (poms.NoCoordinates field) = Some (faults.NoCoordinates field)
pom_fault poms.NoMemory = None

abbrev pub listing_fault : ListingErr → Option ReadFault
listing_fault (listings.BadText place) = Some (faults.BadText place)
listing_fault (listings.Doctype place) = Some (faults.Doctype place)
listing_fault (listings.TooDeep place) = Some (faults.TooDeep place)
listing_fault (listings.UnknownEncoding place) = Some (faults.UnknownEncoding place)
listing_fault listings.NotMetadata = Some faults.NotMetadata
listing_fault listings.NoMemory = None
