-- Images that were looked at in a state are those of each state that has its memory.
use Rattle.std.proofs.Common.{◌≡◌, ℕ, inl, inr, Bool, true, false, not, Some, None, Option, Result, Ok, Err, List, refl, sym, ap, subst, ◌∙◌, true≢false}
use Rattle.std.specs.Prelude.{Contains, IfOk, nat_eq, if◌then◌else◌}
use Rattle.std.specs.List.{list_any}
use Rattle.std.specs.Option.{option_map_or}
use Rattle.std.specs.Cmp.Lexicographic.{pointwise}
use Rattle.pending_images.specs.Changes.{IsReached}
use Rattle.machine.specs.declared.step.Step.{Step}
use Rattle.machine.specs.State.{State}
use Rattle.conditions.specs.Formulas.{Formula}
use Rattle.conditions.specs.declared.cond.Operand.{Operand}
use Rattle.conditions.specs.declared.cond.Operand.TheVariants.{Persisted, Coherent, Register}
use Rattle.conditions.specs.Truth.{is_register, reads_registers}
use Rattle.conditions.proofs.SameValues.{words_decide}
use Rattle.images.specs.Images.{IsImage, image_at}
use Rattle.images.specs.Truth.{holds_on, value_on}
use Rattle.lines_layout.specs.Lines.{has_word}
use Rattle.pending_images.specs.Images.{value_of}
use Rattle.persist_buffer.specs.Memories.{coherent}
use Rattle.explore.specs.declared.question.Question.{Question}
use Rattle.explore.specs.declared.visit.Sight.{Sight}
use Rattle.explore.specs.declared.visit.Sight.TheVariants.{Ends, Go}
use Rattle.explore.specs.Ahead.{IsSeen, by_sets, counts_locals}
use Rattle.explore.specs.Covering.{SpeaksFor}
use Rattle.explore.specs.Explored.{fallen}
use Rattle.explore.specs.Found.{led_to, nodes_of}
use Rattle.explore.specs.Gathered.{WasLookedAt, WereLookedAt}
use Rattle.explore.specs.Keys.{list_key, memory_key}
use Rattle.explore.specs.Sets.{included}
use Rattle.explore.specs.Sound.{IsOf, IsSound}
use Rattle.explore.specs.Visits.{AreKeptOnce, AreKeptOr, IsSightOnce, IsSightOr}
use Rattle.explore.proofs.AheadSteps.{same_restarts}
use Rattle.explore.proofs.CodesTell.{coded_tells}
use Rattle.explore.proofs.FoundPaths.{Grows, among_more}
use Rattle.explore.proofs.KeysTell.{canonical_tells}
use Rattle.explore.proofs.LaterMemories.{reached_before}
use Rattle.explore.proofs.SetsHold.{any_has, included_has}
use Rattle.explore.proofs.SoundRuns.{of_itself, run_of_it}
use Rattle.explore.proofs.SpeakingFor.{like_speaks, same_coherent}

pub more_seen : (sets : Bool) (question : Question) (start : State) (xs ys : List (List Step)) (r : State) → Grows xs ys → IsSeen sets question (nodes_of start xs) r → IsSeen sets question (nodes_of start ys) r
more_seen sets question start xs ys r grows seen =
    record { all = seen.all; falls = λ asked persisted reached. among_more sets start xs ys (fallen r persisted) grows (seen.falls asked persisted reached) }

-- ---- two states that have one memory

unread : (b : Bool) → not b ≡ true → b ≡ false
unread true e = absurd (true≢false (sym e))
unread false e = refl

-- what reads no register is decided by the image and the coherent values
same_in_memory : (a b : State) (f : Formula) (image : List ℕ) → b.shape ≡ a.shape → ((word : ℕ) → coherent b.memory word ≡ coherent a.memory word) → reads_registers f ≡ false
    → holds_on b f image ≡ holds_on a f image
same_in_memory a b f image shape coherents none = words_decide (value_on b image) (value_on a image) same f none
  where
    same : (operand : Operand) → is_register operand ≡ false → value_on b image operand ≡ value_on a image operand
    same (Persisted word) is = ap (λ (lines : List ℕ). value_of lines image word) shape
    same (Coherent word) is =
        ap (λ (lines : List ℕ). if has_word lines word then Some (coherent b.memory word) else None) shape
        ∙ ap (λ (value : ℕ). if has_word a.shape word then Some value else None) (coherents word)
    same (Register p x) is = absurd (true≢false is)

module _ (start a b : State) (is_a : IsOf start a) (is_b : IsOf start b) (same : list_key a ≡ list_key b) where
  shapes : b.shape ≡ a.shape
  shapes = is_b.sibling.shape ∙ sym is_a.sibling.shape

  speaks : SpeaksFor false a.memory b.memory
  speaks = like_speaks false a.memory b.memory (canonical_tells start a b is_a is_b (coded_tells (memory_key false a) (memory_key false b) same))

  reached_too : (persisted : List ℕ) → IsReached b.memory persisted → IsReached a.memory persisted
  reached_too persisted reached = reached_before a.memory b.memory persisted speaks reached

  pub image_too : (image : List ℕ) → IsImage b image → IsImage a image
  image_too image (persisted, reached, shown) = (persisted, reached_too persisted reached, shown ∙ ap (λ (shape : List ℕ). image_at shape persisted) shapes)

  pub seen_too : (sets : Bool) (question : Question) (nodes : List State) → counts_locals question ≡ true → IsSeen sets question nodes a → IsSeen sets question nodes b
  seen_too sets question nodes once seen = record {
    all = λ condition asked image left.
        let none = unread (reads_registers condition) (ap (λ (all : Option Formula). option_map_or (λ f. not (reads_registers f)) all true) (sym asked) ∙ once) in
        same_in_memory a b condition image shapes (same_coherent false a.memory b.memory speaks) none ∙ seen.all condition asked image (image_too image left);
    falls = λ asked persisted reached.
        let (r, there, like) = seen.falls asked persisted (reached_too persisted reached) in
        let restarts = same_restarts b.processors a.processors (is_b.sibling.programs ∙ sym is_a.sibling.programs) in
        (r, there, record { shape = shapes ∙ like.shape; processors = restarts ∙ like.processors; memory = like.memory });
  }

-- ---- memories of which images were looked at

module _ (question : Question) (start : State) (sound : IsSound start) where
  abbrev sets : Bool
  sets = by_sets question start

  led : (path : List Step) → IsOf start (led_to start path)
  led path = run_of_it start path start (of_itself start sound)

  module _ (paths : List (List Step)) (images : List (List ℕ)) (s : State) (is : IsOf start s) (was : WasLookedAt question start paths images (list_key s)) where
    pub seen_again : counts_locals question ≡ true → IsSeen sets question (nodes_of start paths) s
    seen_again once = seen_too start (led_to start was.path) s (led was.path) is was.memory sets question (nodes_of start paths) once was.seen

    pub given_again : question.images ≡ true → (image : List ℕ) → IsImage s image → Contains images image
    given_again asked image left = was.given asked image (image_too start (led_to start was.path) s (led was.path) is was.memory image left)

  -- more is found, and more images are given
  pub still_looked : (xs ys : List (List Step)) (images more : List (List ℕ)) (key : List ℕ) → Grows xs ys → ((image : List ℕ) → Contains images image → Contains more image)
      → WasLookedAt question start xs images key → WasLookedAt question start ys more key
  still_looked xs ys images more key grows each was = record {
    path = was.path;
    memory = was.memory;
    seen = more_seen sets question start xs ys (led_to start was.path) grows was.seen;
    given = λ asked image left. each image (was.given asked image left);
  }

  -- one more memory
  pub one_looked : (paths : List (List Step)) (images keys new : List (List ℕ)) (key : List ℕ) → WereLookedAt question start paths images keys → WasLookedAt question start paths images key → new ≡ included keys key
      → WereLookedAt question start paths images new
  one_looked paths images keys new key were was is = λ other there.
      elim ((included_has keys key other).0 (subst (λ (xs : List (List ℕ)). Contains xs other) is there)) [
        | inl before ↦ were other before
        | inr same ↦ subst (WasLookedAt question start paths images) same was
      ]

-- ---- a look

sight_left : (left once : Bool) (question : Question) (s : State) (path : List Step) (looked : List (List ℕ)) (sight : Sight) → IsSightOr left question s path sight → IsSightOnce left once question s path looked looked sight
sight_left left once question s path looked (Ends stop) stops = stops
sight_left left once question s path looked (Go images) kept = inl (kept, refl)

pub left_sight : {E : Type 0} (left once : Bool) (question : Question) (s : State) (path : List Step) (looked : List (List ℕ)) (r : Result Sight E) → IfOk r (IsSightOr left question s path)
    → IfOk r (IsSightOnce left once question s path looked looked)
left_sight left once question s path looked (Ok sight) is = sight_left left once question s path looked sight is
left_sight left once question s path looked (Err e) is = tt

pub sight_once : (left once again : Bool) (question : Question) (s : State) (path : List Step) (key : List ℕ) (old new : List (List ℕ)) (sight : Sight) → once ≡ true → key ≡ list_key s
    → (again ≡ true → list_any (pointwise nat_eq key) old ≡ true) → new ≡ included old key → IsSightOr again question s path sight → IsSightOnce left once question s path old new sight
sight_once left once again question s path key old new (Ends stop) asked is known more stops = stops
sight_once left once again question s path key old new (Go images) asked is known more kept = inr (by again known kept, more ∙ ap (included old) is)
  where
    by : (b : Bool) → (b ≡ true → list_any (pointwise nat_eq key) old ≡ true) → AreKeptOr b question s images.items → AreKeptOnce once question s images.items old
    by false there kept = inl kept
    by true there none = inr (asked, none.0, none.1, subst (λ (k : List ℕ). Contains old k) is (any_has key old (there refl)))
