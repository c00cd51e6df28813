use Rattle.std.proofs.Common.{subst, sym}
use Rattle.fault_place.specs.Place.{IsPlace}
use Rattle.fault_place.specs.Reader.{Accepts}
use Rattle.res_base.specs.declared.reading.Check.TheVariants.{Sha1, Md5, Sha256, NoCheck}
use Rattle.cache_layout.specs.Fields.{IsCheckName}
use Rattle.cache_layout.proofs.CheckLists.{no_name}
use Rattle.cache_layout.proofs.checks.read_check.Goals as goal

pub returns-in-None-clause-refused : goal.returns-in-None-clause-refused
returns-in-None-clause-refused c = subst (IsPlace (Accepts IsCheckName) c.args.name.now) (sym c.names_end.ensures)
    (no_name c.args.name.now (c.in-None.ensures Sha1) (c.in-None.ensures Md5) (c.in-None.ensures Sha256)
    (c.in-None.ensures NoCheck))
