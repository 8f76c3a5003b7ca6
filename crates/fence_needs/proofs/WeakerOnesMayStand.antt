-- The weaker one of an instruction may stand where that one stands.
use Rattle.std.proofs.Common.{◌≡◌, ℕ, zero, suc, Bool, true, false, Some, List, [], ◌∷◌, get_or, refl, subst}
use Rattle.std.specs.Prelude.{length, nat_le, slice_get}
use Rattle.std.specs.List.{list_all}
use Rattle.std.specs.Option.{option_map_or}
use Rattle.std.proofs.lemmas.Bool.{and_parts}
use Rattle.isa.specs.declared.instr.Access.TheVariants.{Flush}
use Rattle.isa.specs.declared.instr.FenceKind.TheVariants.{Mfence, Sfence}
use Rattle.isa.specs.declared.instr.FlushKind.TheVariants.{Clflush, Clwb}
use Rattle.isa.specs.declared.instr.Instr.{Instr}
use Rattle.isa.specs.declared.instr.Instr.TheVariants.{Memory, Fence, Nop}
use Rattle.isa.specs.declared.programs.Programs.{Programs}
use Rattle.isa.specs.Loadables.{is_loadable, max_processors, names_its_words, runs_on}
use Rattle.isa.specs.Objects.{Object, shape}
use Rattle.image_reasons.specs.declared.entries.Site.{Site}
use Rattle.image_reasons.specs.PutIn.{code_at}
use Rattle.image_reasons.specs.Repairs.{code_of}
use Rattle.fence_needs.specs.declared.need.Need.{Need}
use Rattle.fence_needs.specs.declared.need.Need.TheVariants.{LeftOut}
use Rattle.fence_needs.specs.Changes.{MayStandIn}
use Rattle.fence_needs.specs.Sites.{instr_at}
use Rattle.fence_needs.specs.Weakened.{weaker_of, weaker_tried}

-- ---- each instruction of an object names its words

read_passes : {A : Type 0} (p : A → Bool) (xs : List A) (i : ℕ) (d : A) → list_all p xs ≡ true → p d ≡ true → p (get_or xs i d) ≡ true
read_passes p [] i d all h = h
read_passes p (x ∷ xs) zero d all h = (and_parts (p x) (list_all p xs) all).0
read_passes p (x ∷ xs) (suc i) d all h = read_passes p xs i d (and_parts (p x) (list_all p xs) all).1 h

code_names : (on : List ℕ) (recovering : Bool) (programs : Programs) → runs_on on programs ≡ true → list_all (names_its_words on) (code_of recovering programs) ≡ true
code_names on false programs is = (and_parts (list_all (names_its_words on) programs.main) (list_all (names_its_words on) programs.recovery) is).0
code_names on true programs is = (and_parts (list_all (names_its_words on) programs.main) (list_all (names_its_words on) programs.recovery) is).1

codes_name : (on : List ℕ) (recovering : Bool) (processors : List Programs) (p : ℕ) → list_all (runs_on on) processors ≡ true
    → list_all (names_its_words on) (option_map_or (code_of recovering) (slice_get processors p) []) ≡ true
codes_name on recovering [] p all = refl
codes_name on recovering (programs ∷ processors) zero all = code_names on recovering programs (and_parts (runs_on on programs) (list_all (runs_on on) processors) all).0
codes_name on recovering (programs ∷ processors) (suc p) all = codes_name on recovering processors p (and_parts (runs_on on programs) (list_all (runs_on on) processors) all).1

pub instr_names : (object : Object) (site : Site) → is_loadable (shape object) object.processors ≡ true → names_its_words (shape object) (instr_at object site) ≡ true
instr_names object site is =
    let on = shape object in
    let all = (and_parts (nat_le (length object.processors) max_processors) (list_all (runs_on on) object.processors) is).1 in
    read_passes (names_its_words on) (code_at object site.processor site.recovering) site.place Nop (codes_name on site.recovering object.processors site.processor all) refl

-- ---- its weaker one names the same

pub weaker_may : (object : Object) (instr weaker : Instr) → names_its_words (shape object) instr ≡ true → weaker_of instr ≡ Some weaker → MayStandIn object weaker
weaker_may object (Memory (Flush Clflush) operand) weaker names is =
    let same : Memory (Flush Clwb) operand ≡ weaker = cc is in
    subst (λ (w : Instr). MayStandIn object w) same (record { stays = refl; words = names })
weaker_may object (Fence Mfence) weaker names is =
    let same : Fence Sfence ≡ weaker = cc is in
    subst (λ (w : Instr). MayStandIn object w) same (record { stays = refl; words = refl })
weaker_may object _ weaker names is = absurd (cc is)

pub tried_is_weaker : (need : Need) (instr weaker : Instr) → weaker_tried need instr ≡ Some weaker → weaker_of instr ≡ Some weaker
tried_is_weaker LeftOut instr weaker is = absurd (cc is)
tried_is_weaker _ instr weaker is = is

pub tried_may : (object : Object) (need : Need) (instr weaker : Instr) → names_its_words (shape object) instr ≡ true → weaker_tried need instr ≡ Some weaker → MayStandIn object weaker
tried_may object need instr weaker names is = weaker_may object instr weaker names (tried_is_weaker need instr weaker is)

pub nop_may : (object : Object) → MayStandIn object Nop
nop_may object = record { stays = refl; words = refl }
