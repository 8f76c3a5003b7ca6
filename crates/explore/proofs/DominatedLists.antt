-- Pending lists from which more may leave.
use Rattle.std.proofs.Common.{◌≡◌, ◌≢◌, ℕ, inl, inr, Bool, true, false, List, [], ◌∷◌, ◌++◌, refl, sym, ap, subst, ◌∙◌, true≢false}
use Rattle.std.specs.Prelude.{◌⊎◌, ◌==◌, slice_set, if◌then◌else◌}
use Rattle.std.proofs.lemmas.Bool.{cases_Bool, eqb-true, eq-eqb}
use Rattle.lines_layout.specs.Lines.{line_of}
use Rattle.persist_buffer.specs.declared.entry.PendingEntry.{PendingEntry}
use Rattle.persist_buffer.specs.declared.entry.PendingEntry.TheVariants.{Write, Marker}
use Rattle.explore.specs.Canonical.{MayLeave, with_line}
use Rattle.explore.proofs.CanonicalLists.{nothing_leaves}
use Rattle.explore.proofs.Late.{IsBelow, is_among, markers, without}

-- ---- an order, and behind a first entry

pub below_same : (xs : List PendingEntry) → IsBelow xs xs
below_same xs blocked old new may = may

pub below_then : (xs ys zs : List PendingEntry) → IsBelow xs ys → IsBelow ys zs → IsBelow xs zs
below_then xs ys zs h k blocked old new may = k blocked old new (h blocked old new may)

pub below_behind : (e : PendingEntry) (xs ys : List PendingEntry) → IsBelow xs ys → IsBelow (e ∷ xs) (e ∷ ys)
below_behind (Write word value) xs ys h blocked old new (inl (free, more)) = inl (free, h blocked (slice_set old word value) new more)
below_behind (Write word value) xs ys h blocked old new (inr more) = inr (h (with_line (line_of word) blocked) old new more)
below_behind (Marker line) xs ys h blocked old new (inl (free, more)) = inl (free, h blocked old new more)
below_behind (Marker line) xs ys h blocked old new (inr same) = inr same

pub below_behind_all : (es xs ys : List PendingEntry) → IsBelow xs ys → IsBelow (es ++ xs) (es ++ ys)
below_behind_all [] xs ys h = h
below_behind_all (e ∷ es) xs ys h = below_behind e (es ++ xs) (es ++ ys) (below_behind_all es xs ys h)

-- nothing need leave
pub stays : (blocked : ℕ → Bool) (es : List PendingEntry) (old new : List ℕ) → new ≡ old → MayLeave blocked es old new
stays blocked es old new same = subst (λ (values : List ℕ). MayLeave blocked es old values) (sym same) (nothing_leaves blocked es old)

-- ---- a list that goes on

pub goes_on : (xs ys : List PendingEntry) → IsBelow xs (xs ++ ys)
goes_on [] ys blocked old new same = stays blocked ys old new same
goes_on (Write word value ∷ xs) ys blocked old new (inl (free, more)) = inl (free, goes_on xs ys blocked (slice_set old word value) new more)
goes_on (Write word value ∷ xs) ys blocked old new (inr more) = inr (goes_on xs ys (with_line (line_of word) blocked) old new more)
goes_on (Marker line ∷ xs) ys blocked old new (inl (free, more)) = inl (free, goes_on xs ys blocked old new more)
goes_on (Marker line ∷ xs) ys blocked old new (inr same) = inr same

-- ---- lines among others

pub is_there : (line : ℕ) (lines : List ℕ) → is_among line (line ∷ lines) ≡ true
is_there line lines = rw (eq-eqb line line refl) refl

pub is_there_too : (line other : ℕ) (lines : List ℕ) → is_among line lines ≡ true → is_among line (other ∷ lines) ≡ true
is_there_too line other lines e = by (other == line)
  where
    by : (b : Bool) → (if b then true else is_among line lines) ≡ true
    by true = refl
    by false = e

pub by_line : (line other : ℕ) (lines : List ℕ) → is_among line (other ∷ lines) ≡ true → (other ≡ line) ⊎ (is_among line lines ≡ true)
by_line line other lines e = elim (cases_Bool (other == line)) [
  | inl same ↦ inl (eqb-true other line same)
  | inr apart ↦ inr (sym (ap (λ (b : Bool). if b then true else is_among line lines) apart) ∙ e)
]

-- more lines are among more
pub more_lines : (line : ℕ) (ls ms : List ℕ) → ((l : ℕ) → is_among l ms ≡ true → is_among l ls ≡ true) → (l : ℕ) → is_among l (line ∷ ms) ≡ true → is_among l (line ∷ ls) ≡ true
more_lines line ls ms h l e = elim (by_line l line ms e) [
  | inl same ↦ subst (λ (x : ℕ). is_among x (line ∷ ls) ≡ true) same (is_there line ls)
  | inr too ↦ is_there_too l line ls (h l too)
]

among_without : (line l : ℕ) (ls : List ℕ) → is_among l (without line ls) ≡ (if line == l then false else is_among l ls)
among_without line l [] = by (line == l)
  where
    by : (b : Bool) → false ≡ (if b then false else false)
    by true = refl
    by false = refl
among_without line l (x ∷ xs) = by (cases_Bool (x == line)) (among_without line l xs)
  where
    none : (b : Bool) → (line == l) ≡ b → x ≡ line → (if b then false else is_among l xs) ≡ (if b then false else (if x == l then true else is_among l xs))
    none true e same = refl
    none false e same = sym (ap (λ (c : Bool). if c then true else is_among l xs) (ap (λ (y : ℕ). y == l) same ∙ e))

    other : (a b : Bool) → (line == l) ≡ a → (x == l) ≡ b → (x == line) ≡ false → (if b then true else (if a then false else is_among l xs)) ≡ (if a then false else (if b then true else is_among l xs))
    other true true e f apart = let same : x ≡ line = eqb-true x l f ∙ sym (eqb-true line l e) in absurd (true≢false (sym (eq-eqb x line same) ∙ apart))
    other true false e f apart = refl
    other false true e f apart = refl
    other false false e f apart = refl

    by : ((x == line) ≡ true) ⊎ ((x == line) ≡ false) → is_among l (without line xs) ≡ (if line == l then false else is_among l xs)
        → is_among l (if x == line then without line xs else x ∷ without line xs) ≡ (if line == l then false else (if x == l then true else is_among l xs))
    by (inl same) h = rw same (h ∙ none (line == l) refl (eqb-true x line same))
    by (inr apart) h = rw (apart, h) (other (line == l) (x == l) refl refl apart)

pub without_is_fewer : (line l : ℕ) (ls : List ℕ) → is_among l (without line ls) ≡ true → (line ≢ l) × (is_among l ls ≡ true)
without_is_fewer line l ls e = by (line == l) refl (sym (among_without line l ls) ∙ e)
  where
    by : (b : Bool) → (line == l) ≡ b → (if b then false else is_among l ls) ≡ true → (line ≢ l) × (is_among l ls ≡ true)
    by true is h = absurd (true≢false (sym h))
    by false is h = ((λ same. true≢false (sym (eq-eqb line l same) ∙ is)), h)

pub among_the_others : (line l : ℕ) (ls : List ℕ) → line ≢ l → is_among l ls ≡ true → is_among l (without line ls) ≡ true
among_the_others line l ls apart e = elim (cases_Bool (line == l)) [
  | inl same ↦ absurd (apart (eqb-true line l same))
  | inr other ↦ among_without line l ls ∙ ap (λ (b : Bool). if b then false else is_among l ls) other ∙ e
]

-- ---- markers one after another

-- none of the lines is blocked
abbrev pub AreFree : (ℕ → Bool) → List ℕ → Type 0
AreFree blocked lines = (l : ℕ) → is_among l lines ≡ true → blocked l ≡ false

pub markers_leave : (blocked : ℕ → Bool) (lines : List ℕ) (es : List PendingEntry) (old new : List ℕ) → MayLeave blocked (markers lines ++ es) old new → (AreFree blocked lines × MayLeave blocked es old new) ⊎ (new ≡ old)
markers_leave blocked [] es old new may = inl ((λ l e. absurd (true≢false (sym e))), may)
markers_leave blocked (line ∷ lines) es old new (inl (free, more)) = elim (markers_leave blocked lines es old new more) [
  | inl all ↦ inl ((λ l e. elim (by_line l line lines e) [ inl same ↦ ap blocked (sym same) ∙ free | inr too ↦ all.0 l too ]), all.1)
  | inr same ↦ inr same
]
markers_leave blocked (line ∷ lines) es old new (inr same) = inr same

pub markers_have_left : (blocked : ℕ → Bool) (lines : List ℕ) (es : List PendingEntry) (old new : List ℕ) → AreFree blocked lines → MayLeave blocked es old new → MayLeave blocked (markers lines ++ es) old new
markers_have_left blocked [] es old new free may = may
markers_have_left blocked (line ∷ lines) es old new free may = inl (free line (is_there line lines), markers_have_left blocked lines es old new (λ l e. free l (is_there_too l line lines e)) may)

-- fewer markers, in any order
pub fewer_markers : (ls ms : List ℕ) (es : List PendingEntry) → ((l : ℕ) → is_among l ms ≡ true → is_among l ls ≡ true) → IsBelow (markers ls ++ es) (markers ms ++ es)
fewer_markers ls ms es h blocked old new may = elim (markers_leave blocked ls es old new may) [
  | inl all ↦ markers_have_left blocked ms es old new (λ l e. all.0 l (h l e)) all.1
  | inr same ↦ stays blocked (markers ms ++ es) old new same
]

pub marker_goes : (line : ℕ) (es : List PendingEntry) → IsBelow (Marker line ∷ es) es
marker_goes line es = fewer_markers (line ∷ []) [] es (λ l e. absurd (true≢false (sym e)))

-- markers go behind a write of another line
pub markers_go_behind : (lines : List ℕ) (word value : ℕ) (es : List PendingEntry) → is_among (line_of word) lines ≡ false → IsBelow (markers lines ++ Write word value ∷ es) (Write word value ∷ markers lines ++ es)
markers_go_behind lines word value es apart blocked old new may = elim (markers_leave blocked lines (Write word value ∷ es) old new may) [
  | inl all ↦ elim all.1 [
    | inl (free, more) ↦ inl (free, markers_have_left blocked lines es (slice_set old word value) new all.0 more)
    | inr more ↦ inr (markers_have_left (with_line (line_of word) blocked) lines es old new (still all.0) more)
  ]
  | inr same ↦ stays blocked (Write word value ∷ markers lines ++ es) old new same
]
  where
    still : AreFree blocked lines → AreFree (with_line (line_of word) blocked) lines
    still free l e = elim (cases_Bool (line_of word == l)) [
      | inl same ↦ let is : line_of word ≡ l = eqb-true (line_of word) l same in absurd (true≢false (sym e ∙ ap (λ (x : ℕ). is_among x lines) (sym is) ∙ apart))
      | inr other ↦ ap (λ (b : Bool). if b then true else blocked l) other ∙ free l e
    ]

-- behind another marker, whose line no longer waits
pub markers_go_with : (lines : List ℕ) (line : ℕ) (es : List PendingEntry) → IsBelow (markers lines ++ Marker line ∷ es) (Marker line ∷ markers (without line lines) ++ es)
markers_go_with lines line es blocked old new may = elim (markers_leave blocked lines (Marker line ∷ es) old new may) [
  | inl all ↦ elim all.1 [
    | inl (free, more) ↦ inl (free, markers_have_left blocked (without line lines) es old new (λ l e. all.0 l (without_is_fewer line l lines e).1) more)
    | inr same ↦ inr same
  ]
  | inr same ↦ inr same
]

-- the markers of one line first
pub line_goes_first : (lines : List ℕ) (line : ℕ) (es : List PendingEntry) → is_among line lines ≡ true → IsBelow (markers lines ++ es) (Marker line ∷ markers (without line lines) ++ es)
line_goes_first lines line es there = fewer_markers lines (line ∷ without line lines) es (λ l e.
    elim (by_line l line (without line lines) e) [ inl same ↦ subst (λ (x : ℕ). is_among x lines ≡ true) same there | inr too ↦ (without_is_fewer line l lines too).1 ])
