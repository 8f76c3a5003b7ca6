use Rattle.std.proofs.Common.{◌≡◌, ◌∙◌, ap, inr, map, subst, []}
use Rattle.std.specs.String.{string_bytes}
use Rattle.clap.specs.Words.{App, HasKind, HasMatchesOf, app_of, fault_of, is_simple_and_free}
use Rattle.px86.specs.Commands.{command_line}
use Rattle.px86.proofs.Parse.{is_free, of_error}
use Rattle.px86.proofs.request.parse.Goals as goal

pub returns-in_err-try_get_matches_from-clause-declined :
    goal.returns-in_err-try_get_matches_from-clause-declined
returns-in_err-try_get_matches_from-clause-declined c =
    let error = c.in_err-try_get_matches_from.field-0.0 in
    let words = map string_bytes c.args.words.now in
    let is_ours : app_of c.in_ok-command.command ≡ command_line = c.in_ok-command.ensures in
    let has_kind = c.in_err-try_get_matches_from.ensures.kinds (ap is_simple_and_free is_ours ∙ is_free) in
    of_error c.from_residual-in_err-try_get_matches_from.result _ _
    (λ declined told. inr (error, subst (λ (a : App). HasKind (fault_of a words) error) is_ours has_kind, told))
    c.from_residual-in_err-try_get_matches_from.ensures.1

pub returns-clause-whole : goal.returns-clause-whole
returns-clause-whole c =
    let words = map string_bytes c.args.words.now in
    let is_ours : app_of c.in_ok-command.command ≡ command_line = c.in_ok-command.ensures in
    subst (λ (a : App). fault_of a words ≡ []) is_ours (c.in_ok-try_get_matches_from.ensures.kinds (ap is_simple_and_free is_ours ∙ is_free))

pub returns-clause-matches : goal.returns-clause-matches
returns-clause-matches c =
    let words = map string_bytes c.args.words.now in
    let is_ours : app_of c.in_ok-command.command ≡ command_line = c.in_ok-command.ensures in
    subst (λ (a : App). HasMatchesOf a words c.in_ok-try_get_matches_from.field-0) is_ours c.in_ok-try_get_matches_from.ensures.matches
