use Rattle.project_cases.proofs.poms.listing_of.Given as goal

abbrev pub ghosts-listing_counted : goal.ghosts-listing_counted
ghosts-listing_counted a = record { name = a.blank.name; parts = a.blank.parts }
