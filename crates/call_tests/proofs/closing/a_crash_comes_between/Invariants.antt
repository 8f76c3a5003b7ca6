use Rattle.call_tests.proofs.closing.a_crash_comes_between.Given as goal

abbrev pub ghosts-crashed_between-K-Ledger : goal.ghosts-crashed_between-K-Ledger
ghosts-crashed_between-K-Ledger g a = record { name = a.blank.name; parts = a.blank.parts }

abbrev pub ghosts-crashed_between-K-Naming : goal.ghosts-crashed_between-K-Naming
ghosts-crashed_between-K-Naming g a = record { opening = a.machine }
