use Rattle.std.proofs.Common.{◌≡◌, ◌+◌, ◌≤◌, drop}
use Rattle.text_tokens.specs.Numbers.{digits_from, below}
use Rattle.text_tokens.proofs.numeral.digits_up_to.Given as goal

abbrev pub invariant-loop-byte : goal.invariant-loop-byte
invariant-loop-byte l = record {
  same : below (l.most + 1) (digits_from l.radix l.number (drop l.byte-index l.digits)) ≡ below (l.most + 1) (digits_from l.radix 0 l.digits);
  small : l.number ≤ l.most;
}
