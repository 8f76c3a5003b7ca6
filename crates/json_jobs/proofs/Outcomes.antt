-- The processors of an outcome, one after another.
use Rattle.std.proofs.Common.{◌≡◌, ℕ, suc, ◌+◌, ◌-◌, ◌<◌, List, [], ◌∷◌, ◌++◌, drop, map, sym, ap, ◌∙◌, arith}
use Rattle.serde_json.specs.Data.{Data}
use Rattle.serde_json.specs.View.{view}
use Rattle.serde_json.specs.declared.value.Value.{Value}
use Rattle.jobs.specs.OutcomeReports.{processor_numbers}
use Rattle.json_texts.specs.Objects.{IsJsonOf, json_of}
use Rattle.json_texts.proofs.Items.{one_more}
use Rattle.json_jobs.specs.RunReports.{behind_processors, processor_data, processors_from}

-- the processors from the next on
pub processors_more : (count p : ℕ) (rest behind : List ℕ) (items new : List Value) (v : Value) (total : List Data) → p < count
    → new ≡ items ++ v ∷ [] → IsJsonOf (processor_data p rest) v → behind ≡ drop processor_numbers rest
    → map view items ++ map json_of (processors_from (count - p) p rest) ≡ total
    → map view new ++ map json_of (processors_from (count - (p + 1)) (p + 1) behind) ≡ total
processors_more count p rest behind items new v total inside pushed is left so_far =
    let left_over : count - p ≡ suc (count - (p + 1)) = omega (arith, inside) in
    let others = λ (b : List ℕ). map json_of (processors_from (count - (p + 1)) (p + 1) b) in
    ap (λ (b : List ℕ). map view new ++ others b) left
    ∙ one_more items new v (others (drop processor_numbers rest)) total pushed (
    ap (λ (d : Data). map view items ++ d ∷ others (drop processor_numbers rest)) is
    ∙ sym (ap (λ (n : ℕ). map view items ++ map json_of (processors_from n p rest)) left_over) ∙ so_far
    )

-- what is behind them
pub behind_more : (count p : ℕ) (rest behind total : List ℕ) → p < count → behind ≡ drop processor_numbers rest
    → behind_processors (count - p) rest ≡ total → behind_processors (count - (p + 1)) behind ≡ total
behind_more count p rest behind total inside left so_far =
    let left_over : count - p ≡ suc (count - (p + 1)) = omega (arith, inside) in
    ap (behind_processors (count - (p + 1))) left ∙ sym (ap (λ (n : ℕ). behind_processors n rest) left_over) ∙ so_far
