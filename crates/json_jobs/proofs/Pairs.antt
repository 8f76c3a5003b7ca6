-- Words by their names, line by line, and outcomes one after another.
use Rattle.std.proofs.Common.{◌≡◌, ◌∙◌, ℕ, ◌+◌, ◌<◌, Some, slice_get, List, [], ◌∷◌, ◌++◌, length, drop, get_or, map, refl, sym, ap, ap₂, append_assoc, arith}
use Rattle.std.proofs.lemmas.List.{at_drop_more, map-append}
use Rattle.std.proofs.lemmas.List.Concat.{flat_map-cons}
use Rattle.std.proofs.lemmas.Option.{get_or_from_slice_get, slice_get_within}
use Rattle.lines_layout.specs.Layouts.{NamedLines}
use Rattle.lines_layout.specs.Names.{Text}
use Rattle.hunt.specs.Outcomes.{Observed}
use Rattle.hunt.specs.declared.observed.WordPair.{WordPair}
use Rattle.commands.specs.OutcomeTexts.{names_of}
use Rattle.serde_json.specs.Data.{Data}
use Rattle.serde_json.specs.View.{view}
use Rattle.serde_json.specs.declared.value.Value.{Value}
use Rattle.json_texts.specs.Objects.{IsJsonOf, Tree, json_of}
use Rattle.json_texts.proofs.Items.{one_more_of}
use Rattle.json_jobs.specs.TallyData.{outcome_data, pair_data, pairs_data}

names_join : (names more : List Text) (pairs : List WordPair) → pairs_data (names ++ more) pairs ≡ pairs_data names pairs ++ pairs_data more (drop (length names) pairs)
names_join [] more pairs = refl
names_join (name ∷ names) [] [] = refl
names_join (name ∷ names) (other ∷ more) [] = refl
names_join (name ∷ names) more (pair ∷ pairs) = ap (λ (ts : List Tree). pair_data name pair ∷ ts) (names_join names more pairs)

-- the words from the next line on
pub lines_more : (lines layout : NamedLines) (i : ℕ) (line names same : List Text) (rest behind : List WordPair) (items new total : List Data) → lines ≡ layout → i < length lines
    → line ≡ get_or lines i line → names ≡ line → same ≡ line → behind ≡ drop (length same) rest → new ≡ items ++ map json_of (pairs_data names rest)
    → items ++ map json_of (pairs_data (names_of (drop i layout)) rest) ≡ total
    → new ++ map json_of (pairs_data (names_of (drop (i + 1) layout)) behind) ≡ total
lines_more lines layout i line names same rest behind items new total is inside here named again left one so_far =
    let more = names_of (drop (i + 1) layout) in
    let there = ap length is in
    let whole : names_of (drop i layout) ≡ line ++ more =
    at_drop_more names_of layout i line (omega (arith, inside, there)) ∙ flat_map-cons (λ (n : List Text). n) (get_or layout i line) (drop (i + 1) layout)
    ∙ ap (λ (n : List Text). n ++ more) (sym (here ∙ ap (λ (ls : NamedLines). get_or ls i line) is)) in
    let first = pairs_data line rest in
    let others = pairs_data more (drop (length line) rest) in
    let joined : map json_of (pairs_data (names_of (drop i layout)) rest) ≡ map json_of first ++ map json_of others =
    ap (λ (n : List Text). map json_of (pairs_data n rest)) whole ∙ ap (map json_of) (names_join line more rest) ∙ map-append json_of first others in
    ap₂ (λ (ds : List Data) (pairs : List WordPair). ds ++ map json_of (pairs_data more pairs))
    (one ∙ ap (λ (n : List Text). items ++ map json_of (pairs_data n rest)) named) (left ∙ ap (λ (n : List Text). drop (length n) rest) again)
    ∙ append_assoc items (map json_of first) (map json_of others)
    ∙ ap (λ (ds : List Data). items ++ ds) (sym joined) ∙ so_far

-- the outcomes from the next on
pub outcomes_more : (layout : NamedLines) (tally : List (Observed × ℕ)) (k : ℕ) (entry : Observed × ℕ) (items new : List Value) (v : Value) (total : List Data)
    → slice_get tally k ≡ Some entry → new ≡ items ++ v ∷ [] → IsJsonOf (outcome_data layout entry) v
    → map view items ++ map json_of (map (outcome_data layout) (drop k tally)) ≡ total
    → map view new ++ map json_of (map (outcome_data layout) (drop (k + 1) tally)) ≡ total
outcomes_more layout tally k entry items new v total there pushed is so_far =
    one_more_of (outcome_data layout) tally k entry items new v total (slice_get_within tally k entry there) pushed
    (is ∙ sym (ap (λ (e : Observed × ℕ). json_of (outcome_data layout e)) (get_or_from_slice_get tally k entry entry there))) so_far
