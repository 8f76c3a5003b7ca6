use Rattle.call_tests.proofs.closing.closes_so.Given as goal

abbrev pub ghosts-strange_receipts-K-Ledger : goal.ghosts-strange_receipts-K-Ledger
ghosts-strange_receipts-K-Ledger g a = record { name = a.blank.name; parts = a.blank.parts }

abbrev pub ghosts-strange_receipts-K-Naming : goal.ghosts-strange_receipts-K-Naming
ghosts-strange_receipts-K-Naming g a = record { opening = a.machine }

abbrev pub ghosts-four_closes-K-Ledger : goal.ghosts-four_closes-K-Ledger
ghosts-four_closes-K-Ledger g a = record { name = a.blank.name; parts = a.blank.parts }

abbrev pub ghosts-four_closes-K-Naming : goal.ghosts-four_closes-K-Naming
ghosts-four_closes-K-Naming g a = record { opening = a.machine }
