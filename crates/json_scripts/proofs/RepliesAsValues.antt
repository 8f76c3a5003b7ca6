-- Replies as values: one more of them, and the report of all.
use Rattle.std.proofs.Common.{◌≡◌, ◌∙◌, ℕ, Ok, Err, List, [], ◌∷◌, ◌++◌, map, refl, sym, ap, arith}
use Rattle.std.specs.List.{flat_map}
use Rattle.std.proofs.lemmas.List.{flat_map_more, map-append}
use Rattle.litmus_text.specs.declared.text_lines.LinedObject.{LinedObject}
use Rattle.commands.specs.declared.fault.Fault.{Fault}
use Rattle.commands.specs.declared.fault.Stage.TheVariants as stages
use Rattle.commands.specs.Faults.{missing}
use Rattle.commands.specs.Serving.{Report}
use Rattle.commands.specs.Works.{Makes}
use Rattle.commands.proofs.WorksInTurn.{made_first, made_next}
use Rattle.debug_scripts.specs.DebugPlans.{script_replies}
use Rattle.debug_scripts.specs.Replies.{Told}
use Rattle.serde_json.specs.Data.{Data, array}
use Rattle.serde_json.specs.View.{items_of, view}
use Rattle.serde_json.specs.declared.value.Value.{Value}
use Rattle.json_texts.specs.Objects.{GetsItems, IsJsonOf, Tree, json_of}
use Rattle.json_texts.proofs.Items.{items_are}
use Rattle.json_scripts.specs.DebugData.{AreJsonOf, debug_on, debug_report, replies_data, told_items}
use Rattle.json_scripts.specs.Headed.{headed}

-- one value more
pub gets_one : (old new : List Value) (value : Value) (whole : Tree) → new ≡ old ++ value ∷ [] → IsJsonOf whole value → GetsItems old new (whole ∷ [])
gets_one old new value whole pushed is =
    ap (λ (vs : List Value). map view vs) pushed ∙ map-append view old (value ∷ []) ∙ ap (λ (d : Data). map view old ++ d ∷ []) is

-- the object of the report, where its replies are the JSON of trees
pub replies_are : (trees : List Tree) (items : List Value) (replies value : Value) → view replies ≡ array (items_of (map view items))
    → view value ≡ headed (view replies) → AreJsonOf trees items → IsJsonOf (replies_data trees) value
replies_are trees items replies value listed is are =
    is ∙ ap headed (listed ∙ ap (λ (ds : List Data). array (items_of ds)) are ∙ ap array (sym (items_are trees)))

-- what is told of one reply more
pub told_more : (lined : LinedObject) (told : List Told) (one : Told) (old new : List Value) → GetsItems old new (told_items lined one)
    → AreJsonOf (flat_map (told_items lined) told) old → AreJsonOf (flat_map (told_items lined) (told ++ one ∷ [])) new
told_more lined told one old new gets so_far =
    let tells = told_items lined in
    gets ∙ ap (λ (ds : List Data). ds ++ map json_of (tells one)) so_far ∙ sym (map-append json_of (flat_map tells told) (tells one))
    ∙ ap (λ (ts : List Tree). map json_of ts) (flat_map_more tells [] told one)

-- the report of what a script comes to
pub report_made : (lined : LinedObject) (script : List ℕ) (told : List Told) (report : Report) → Makes (script_replies lined.object script) (Ok told)
    → report ≡ debug_report lined told → Makes (debug_on lined script) (Ok report)
unfolding Makes
report_made lined script told report makes is = made_next _ _ told (Ok report) makes (cc)

-- there is none where memory is refused to it
pub report_lacks : (lined : LinedObject) (script : List ℕ) (told : List Told) → Makes (script_replies lined.object script) (Ok told)
    → Makes (debug_on lined script) (Err (missing stages.Machine))
unfolding Makes
report_lacks lined script told makes = made_next _ _ told (Err (missing stages.Machine)) makes (0, omega arith, refl)

-- nor where the script comes to a fault
pub report_fault : (lined : LinedObject) (script : List ℕ) (fault : Fault) → Makes (script_replies lined.object script) (Err fault)
    → Makes (debug_on lined script) (Err fault)
report_fault lined script fault makes = made_first _ _ fault makes
