-- Machines of checkpoints that give way.
use Rattle.std.proofs.Common.{◌≡◌, ℕ, ◌-◌, Bool, true, false, List, [], ◌∷◌, ◌++◌, length, get_or, take, nat_lt, if◌then◌else◌, Option, Some, None, refl, sym, ◌∙◌, ap, subst}
use Rattle.std.specs.Prelude.{slice_get}
use Rattle.std.specs.List.{All, Any}
use Rattle.std.proofs.lemmas.Option.{slice_get_within, get_or_from_slice_get}
use Rattle.circular_buffer.specs.Buffer.{last_item}
use Rattle.machine.specs.State.{State}
use Rattle.machine.specs.declared.step.Step.{Step}
use Rattle.machine.specs.Programs.{AreSiblings}
use Rattle.debugger.specs.Pasts.{Past, past, Leads}
use Rattle.debugger.specs.Marks.{mark_room}
use Rattle.debugger.specs.Checkpoints.{AreCheckpoints, IsCheckpoint, IsGivenUp, IsSpare}
use Rattle.debugger.specs.declared.checkpoint.Checkpoint.{Checkpoint}
use Rattle.debugger.proofs.Replays.{siblings, led_to}

pub one_given : (cs : List Checkpoint) (k : ℕ) (c : Checkpoint) → slice_get cs k ≡ Some c → Any (λ x. x.machine ≡ c.machine) cs
one_given cs k c is = (k, c, slice_get_within cs k c is, get_or_from_slice_get cs k c c is, refl)

pub last_given : (cs items : List Checkpoint) (r : Option Checkpoint) (c : Checkpoint) → items ≡ cs → r ≡ last_item items → r ≡ Some c → IsGivenUp cs (Some c.machine)
last_given cs items r c same value is = one_given cs (length cs - 1) c (ap (λ (xs : List Checkpoint). last_item xs) (sym same) ∙ sym value ∙ is)

-- what gives way has the shape and the programs that all have
pub given_spare : (s : State) (cs : List Checkpoint) (given : Option State) → All (λ c. AreSiblings c.machine s) cs → IsGivenUp cs given → IsSpare s given
given_spare s cs None all is = tt
given_spare s cs (Some m) all (k, c, lt, at, same) =
    let one : AreSiblings c.machine s = subst (λ (x : Checkpoint). AreSiblings x.machine s) at (all k c lt) in
    subst (λ (x : State). AreSiblings x s) same one

pub all_alike : (o s : State) (h : List Step) (p : Past) (cs : List Checkpoint) → past o h s ≡ p → Leads o h s → AreCheckpoints p cs → All (λ c. AreSiblings c.machine s) cs
all_alike o s h p cs is led all i d lt =
    let one : IsCheckpoint (past o h s) (get_or cs i d) = subst (λ (q : Past). IsCheckpoint q (get_or cs i d)) (sym is) (all i d lt) in
    siblings (take (get_or cs i d).length h) h o _ s one.state (led_to o s h led)

pub opening_alike : (p : Past) (cs : List Checkpoint) → AreCheckpoints p cs → All (λ c. AreSiblings c.machine p.opening) cs
opening_alike p cs all i d lt = siblings (take (get_or cs i d).length p.history) [] p.opening _ _ (all i d lt).state refl

-- a spare machine is one for each state of that shape and these programs
pub spare_moved : (s t : State) (spare : Option State) → AreSiblings s t → IsSpare s spare → IsSpare t spare
spare_moved s t None far is = tt
spare_moved s t (Some m) far is = record { shape = is.shape ∙ far.shape; programs = is.programs ∙ far.programs }

pub spare_on : (o s : State) (h : List Step) (spare : Option State) → Leads o h s → IsSpare o spare → IsSpare s spare
spare_on o s h spare led is = spare_moved o s spare (siblings [] h o o s refl (led_to o s h led)) is

pub spare_back : (o s : State) (h : List Step) (spare : Option State) → Leads o h s → IsSpare s spare → IsSpare o spare
spare_back o s h spare led is = spare_moved s o spare (siblings h [] o s o (led_to o s h led) refl) is

pub one_spare : (s m : State) (spare q : Option State) → q ≡ spare → q ≡ Some m → IsSpare s spare → AreSiblings m s
one_spare s m spare q same is all = let one : IsSpare s (Some m) = subst (λ (x : Option State). IsSpare s x) (sym same ∙ is) all in one

oldest_given : (cs : List Checkpoint) (item : Checkpoint) (r : Option Checkpoint) (c : Checkpoint) → r ≡ (if nat_lt (length cs) mark_room then None else slice_get (cs ++ item ∷ []) 0) → r ≡ Some c → slice_get cs 0 ≡ Some c
oldest_given [] item r c value is = absurd (cc)
oldest_given (x ∷ cs) item r c value is = either (nat_lt (length (x ∷ cs)) mark_room) value
  where
    either : (b : Bool) → r ≡ (if b then None else Some x) → Some x ≡ Some c
    either true e = absurd (cc)
    either false e = sym e ∙ is

pub push_given : (cs items : List Checkpoint) (cap : ℕ) (item : Checkpoint) (r : Option Checkpoint) (c : Checkpoint) → cap ≡ mark_room → items ≡ cs → r ≡ (if nat_lt (length items) cap then None else slice_get (items ++ item ∷ []) 0) → r ≡ Some c → IsGivenUp cs (Some c.machine)
push_given cs items cap item r c room same value is = one_given cs 0 c (oldest_given cs item r c (subst (λ (n : ℕ). r ≡ (if nat_lt (length cs) n then None else slice_get (cs ++ item ∷ []) 0)) room (subst (λ (xs : List Checkpoint). r ≡ (if nat_lt (length xs) cap then None else slice_get (xs ++ item ∷ []) 0)) same value)) is)

pub given_here : (o s : State) (h : List Step) (p : Past) (cs : List Checkpoint) (given : Option State) → past o h s ≡ p → AreCheckpoints p cs → IsGivenUp cs given → IsSpare o given
given_here o s h p cs given is all up =
    subst (λ (q : Past). IsSpare q.opening given) (sym is) (given_spare p.opening cs given (opening_alike p cs all) up)
