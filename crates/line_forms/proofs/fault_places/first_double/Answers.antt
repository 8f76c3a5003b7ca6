use Rattle.std.proofs.Common.{◌≡◌, ◌-◌, ◌∙◌, ap, refl, rules, sym, take}
use Rattle.std.specs.Prelude.{find, option_map, unwrap_or}
use Rattle.std.specs.List.{range_with_len}
use Rattle.std.proofs.lemmas.Iterator.{YieldsList-from_range}
use Rattle.std.proofs.lemmas.Iterator.Adapters.{option_map_id}
use Rattle.std.proofs.lemmas.Iterator.Search.{find_from_yields_List}
use Rattle.text_tokens.specs.Text.{lines_of, tokens_of}
use Rattle.line_forms.specs.FaultPlaces.{is_double}
use Rattle.line_forms.proofs.fault_places.first_double.Goals as goal

pub returns : goal.returns
returns c =
    let found : option_map (λ x. x) c.find.result ≡ find (is_double (take (c.args.number - 1) (lines_of c.args.text.now)) (tokens_of c.args.line.now)) (range_with_len 1 8) =
    find_from_yields_List (is_double (take (c.args.number - 1) (lines_of c.args.text.now)) (tokens_of c.args.line.now)) c.find.new.self _ c.find.result c.find.ensures.ran
    (YieldsList-from_range 1 9 8 refl refl) (λ a b q k. search rules) in
    c.unwrap_or.ensures ∙ ap (λ o. unwrap_or o 0) (sym (option_map_id c.find.result) ∙ found)
