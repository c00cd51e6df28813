use Rattle.project_cases.proofs.poms.pom_of.Given as goal

abbrev pub ghosts-pom_counted : goal.ghosts-pom_counted
ghosts-pom_counted a = record { name = a.blank.name; parts = a.blank.parts }
