use Rattle.library_examples.proofs.shared_machine.journal.Given as goal

abbrev pub ghosts-shared-K-Ledger : goal.ghosts-shared-K-Ledger
ghosts-shared-K-Ledger g a = record { name = a.blank.name; parts = a.blank.parts }

abbrev pub ghosts-shared-K-Naming : goal.ghosts-shared-K-Naming
ghosts-shared-K-Naming g a = record { opening = a.machine }
