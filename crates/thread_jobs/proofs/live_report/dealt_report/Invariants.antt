use Rattle.thread_jobs.proofs.live_report.dealt_report.Given as goal

abbrev pub ghosts-dealt_on-K-Ledger : goal.ghosts-dealt_on-K-Ledger
ghosts-dealt_on-K-Ledger g a = record { name = a.blank.name; parts = a.blank.parts }

abbrev pub ghosts-dealt_on-K-Naming : goal.ghosts-dealt_on-K-Naming
ghosts-dealt_on-K-Naming g a = record { opening = a.machine }
