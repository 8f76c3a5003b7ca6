use Rattle.std.proofs.Common.{ap, ◌≡◌, ◌∙◌, false, List, subst}
use Rattle.clap.specs.Simple.{app_of_fields}
use Rattle.clap.specs.Words.{app_of, new_app, with_rule, Rule}
use Rattle.clap.specs.declared.builder.command.Command.TheViews.{out-Command}
use Rattle.px86.specs.Building.{IsCommand}
use Rattle.px86.specs.Commands.{common_options, file_argument, with_rules}
use Rattle.px86.proofs.arguments.command_of.Goals as goal

pub returns : goal.returns
returns c =
    let name = c.args.row.now.name.now in
    let bare : app_of c.after_help-command.result ≡ new_app name = ap app_of_fields c.after_help-command.ensures ∙ ap app_of_fields c.about.ensures ∙ c.new.ensures.app in
    let none : (out-Command c.after_help-command.result).has_globals ≡ false = ap (λ f. f.has_globals) c.after_help-command.ensures ∙ ap (λ f. f.has_globals) c.about.ensures ∙ c.new.ensures.local in
    let alone = with_rules (with_rule (new_app name) (file_argument c.args.row.now.reads)) common_options in
    let common : IsCommand c.with_options-command.result alone = c.with_options-command.ensures _ (c.with_argument-command.ensures _ _ (bare, none) c.file_argument.ensures) in
    let read = subst (λ (rules : List Rule). IsCommand c.with_options-command-2.result (with_rules alone rules)) c.options.ensures (c.with_options-command-2.ensures alone common) in
    c.with_options.ensures _ read
