use Rattle.std.proofs.Common.{◌≡◌, ◌∙◌, sym}
use Rattle.sheets.specs.Abbreviations.{in_copy}
use Rattle.sheets.proofs.RowSteps.{fault_word}
use Rattle.sheets.proofs.words.Words.read_tokens.Goals as goal

pub returns-in-Err-Fault : goal.returns-in-Err-Fault
returns-in-Err-Fault c =
    let same : c.deref.result.now ≡ in_copy c.args.copy c.in-Some.token.now = c.deref.ensures.value ∙ c.in_ok-token.ensures in
    let read = rw (c.in-Err-Fault.field-0-is, same) at c.in-Err-Fault.ensures in
    rw c.in-Err-Fault.field-0-is (sym c.loop-token.invariant ∙ fault_word _ _ _ _ _ _ _ c.in-Some.ensures.steps read)
