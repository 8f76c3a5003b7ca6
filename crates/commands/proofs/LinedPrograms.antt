-- A program that is read with the lines of its instructions and its questions is the program, and a fault is the same.
use Rattle.std.proofs.Common.{◌≡◌, ◌∙◌, ◌++◌, ℕ, false, true, Option, None, Some, Result, Ok, Err, List, [], ap, append-nil, inl, inr, refl, sym}
use Rattle.std.proofs.lemmas.Bool.{cases_Bool}
use Rattle.std.specs.Prelude.{Contains}
use Rattle.outcomes.specs.Outcomes.{◌>>=◌}
use Rattle.isa.specs.Objects.{Object}
use Rattle.loader.specs.Reading.{object_of}
use Rattle.litmus_text.specs.declared.fault.TextFault.{TextFault}
use Rattle.litmus_text.specs.declared.text_lines.LinedObject.{LinedObject}
use Rattle.litmus_text.specs.LinedObjects.{lined_of}
use Rattle.litmus_text.specs.SourceLines.{lines_found}
use Rattle.litmus_text.specs.TextLines.{TextLines}
use Rattle.litmus_text.specs.Texts.{litmus_of}
use Rattle.questions.specs.Questions.{NamedQuestion, Questioned}
use Rattle.questions.specs.Reading.{questioned_of}
use Rattle.questions.specs.Scopes.{Scope}
use Rattle.sheets.specs.Reading.{is_sheet}
use Rattle.sheets.proofs.ToldLines.{lines_are_said}
use Rattle.commands.specs.declared.fault.Fault.{Fault}
use Rattle.commands.specs.declared.fault.Fault.TheVariants as faults
use Rattle.commands.specs.declared.fault.Refused.{Refused}
use Rattle.commands.specs.declared.fault.Refused.TheVariants as refusals
use Rattle.commands.specs.declared.fault.Stage.{Stage}
use Rattle.commands.specs.Faults.{stage_of}
use Rattle.commands.specs.Programs.{asked_text_of, is_object_file, lined_work, lines_in_file, program_of, program_work, questioned_work, questions_in_file, questions_told, scope_in_file, scope_told, unasked}
use Rattle.commands.specs.Works.{Makes, Work, and_then, done, reached_after, told_after}
use Rattle.commands.proofs.AskedSheets.{asked_is_read}

-- an object with these lines, and with these questions and what conditions may name
abbrev lined_with : TextLines → Object → LinedObject
lined_with lines object = record { object = object; lines = lines }

abbrev asked_with : Option Scope → List NamedQuestion → LinedObject → Questioned
asked_with scope questions lined = record { lined = lined; questions = questions; scope = scope }

-- ---- a text

-- the object that is said, and the lines
record IsSaidWith (said : Result Object TextFault) (lines : TextLines) (lined : LinedObject) : Type 0 where
  object : said ≡ Ok lined.object
  lines_are : lined.lines ≡ lines

said_with : (said : Result Object TextFault) (lines : TextLines) (lined : LinedObject) → (said >>= λ object. Ok (lined_with lines object)) ≡ Ok lined → IsSaidWith said lines lined
said_with (Ok object) lines lined e =
    let whole : lined_with lines object ≡ lined = cc in
    let same : object ≡ lined.object = ap (λ (l : LinedObject). l.object) whole in
    let found : lines ≡ lined.lines = ap (λ (l : LinedObject). l.lines) whole in
    record { object = rw same refl; lines_are = sym found }
said_with (Err fault) lines lined e = absurd (cc)

-- a text that asks nothing
unasked_lined : (said : Result LinedObject TextFault) (asked : Questioned) → unasked said ≡ Ok asked → said ≡ Ok asked.lined
unasked_lined (Ok lined) asked e =
    let whole : asked_with None [] lined ≡ asked = cc in
    let same : lined ≡ asked.lined = ap (λ (q : Questioned). q.lined) whole in
    rw same refl
unasked_lined (Err fault) asked e = absurd (cc)

-- ---- the whole file

abbrev made_as : Questioned → Result Questioned Refused
made_as asked = Ok asked

-- the same parts make the same program
same_parts : (asked : Questioned) (lines : TextLines) (questions : List NamedQuestion) (scope : Option Scope) → lines ≡ asked.lined.lines → questions ≡ asked.questions → scope ≡ asked.scope
    → made_as (asked_with scope questions (lined_with lines asked.lined.object)) ≡ made_as asked
same_parts asked lines questions scope l q s = rw (l, q, s) refl

made_with : (bytes : List ℕ) (asked : Questioned) → asked.lined.lines ≡ lines_in_file bytes → asked.questions ≡ questions_in_file bytes → asked.scope ≡ scope_in_file bytes
    → program_of bytes ≡ Ok asked.lined.object → Makes (questioned_work bytes) (Ok asked)
unfolding Makes and_then done
made_with bytes asked lines questions scope said =
    rw said (same_parts asked (lines_in_file bytes) (questions_in_file bytes) (scope_in_file bytes) (sym lines) (sym questions) (sym scope))

-- a litmus text, and a sheet
litmus_is_asked : (bytes : List ℕ) (asked : Questioned) → is_object_file bytes ≡ false → is_sheet bytes ≡ false → unasked (lined_of bytes) ≡ Ok asked → Makes (questioned_work bytes) (Ok asked)
litmus_is_asked bytes asked other plain read =
    let text = unasked_lined (lined_of bytes) asked read in
    let said = said_with (litmus_of bytes) (Some (lines_found bytes)) asked.lined text in
    made_with bytes asked (rw (other, plain) said.lines_are) (rw (other, plain, read) refl) (rw (other, plain, read) refl) (rw (other, plain, said.object) refl)

sheet_is_asked : (bytes : List ℕ) (asked : Questioned) → is_object_file bytes ≡ false → is_sheet bytes ≡ true → questioned_of bytes ≡ Ok asked → Makes (questioned_work bytes) (Ok asked)
sheet_is_asked bytes asked other is read =
    let said = asked_is_read bytes asked read in
    made_with bytes asked (rw (other, is) (lines_are_said bytes asked.lined said)) (rw (other, is, read) refl) (rw (other, is, read) refl) (rw (other, is, read) refl)

pub text_is_asked : (bytes : List ℕ) (asked : Questioned) → is_object_file bytes ≡ false → asked_text_of bytes ≡ Ok asked → Makes (questioned_work bytes) (Ok asked)
text_is_asked bytes asked other read = elim (cases_Bool (is_sheet bytes)) [
  | inl is ↦ sheet_is_asked bytes asked other is (rw is at read)
  | inr plain ↦ litmus_is_asked bytes asked other plain (rw plain at read)
]

-- the fault of a text is that of the program
lined_fault : (said : Result Object TextFault) (lines : TextLines) (fault : TextFault) → unasked (said >>= λ object. Ok (lined_with lines object)) ≡ Err fault → said ≡ Err fault
lined_fault (Ok object) lines fault e = absurd cc
lined_fault (Err found) lines fault e = cc

pub text_is_refused : (bytes : List ℕ) (fault : TextFault) → is_object_file bytes ≡ false → asked_text_of bytes ≡ Err fault → program_of bytes ≡ Err (refusals.Text fault)
text_is_refused bytes fault other read = elim (cases_Bool (is_sheet bytes)) [
  | inl is ↦ let sheet : questioned_of bytes ≡ Err fault = rw is at read in rw (other, is, sheet) refl
  | inr plain ↦
      let text : unasked (lined_of bytes) ≡ Err fault = rw plain at read in
      let said = lined_fault (litmus_of bytes) (Some (lines_found bytes)) fault text in
      rw (other, plain, said) refl
]

pub object_is_asked : (bytes : List ℕ) (object : Object) (lines : TextLines) → is_object_file bytes ≡ true → object_of bytes ≡ Ok object → lines ≡ None
    → Makes (questioned_work bytes) (Ok (asked_with None [] (lined_with lines object)))
object_is_asked bytes object lines is read none = made_with bytes (asked_with None [] (lined_with lines object)) (rw (is, none) refl) (rw is refl) (rw is refl) (rw (is, read) refl)

-- ---- a part of what is made

-- where nothing but this is left to do, a fault is that of the work
told_first : {A B : Type 0} (said : Result A Refused) (f : A → B) (g : B → A) → ((a : A) → g (f a) ≡ a) → (made : B) → told_after said (λ (a : A). done (f a)) ≡ Ok made → said ≡ Ok (g made)
unfolding done
told_first (Ok a) f g back made e =
    let whole : f a ≡ made = cc in
    let same : a ≡ g made = sym (back a) ∙ ap g whole in
    rw same refl
told_first (Err refused) f g back made e = absurd (cc)

refused_first : {A B : Type 0} (said : Result A Refused) (f : A → B) (refused : Refused) → told_after said (λ (a : A). done (f a)) ≡ Err refused → said ≡ Err refused
unfolding done
refused_first (Ok a) f refused e = absurd (cc)
refused_first (Err found) f refused e = cc

missing_first : {A B : Type 0} (reached : List Stage) (said : Result A Refused) (f : A → B) (at : Stage) → Contains (reached ++ reached_after said (λ (a : A). done (f a))) at → Contains reached at
unfolding done
missing_first reached (Ok a) f at is = rw (append-nil reached) at is
missing_first reached (Err refused) f at is = rw (append-nil reached) at is

made_first : {A B : Type 0} (work : Work A) (f : A → B) (g : B → A) → ((a : A) → g (f a) ≡ a) → (made : B) → Makes (and_then work (λ (a : A). done (f a))) (Ok made) → Makes work (Ok (g made))
unfolding Makes and_then
made_first work f g back made is = told_first work.told f g back made is

fault_first : {A B : Type 0} (work : Work A) (f : A → B) (fault : Fault) → Makes (and_then work (λ (a : A). done (f a))) (Err fault) → Makes work (Err fault)
unfolding Makes and_then
fault_first work f (faults.Refused refused) made = refused_first work.told f refused made
fault_first work f (faults.Missing missing) made = missing_first work.reached work.told f (stage_of missing) made
fault_first work f (faults.Device device) made = made

pub asked_is_lined : (bytes : List ℕ) (asked : Questioned) → Makes (questioned_work bytes) (Ok asked) → Makes (lined_work bytes) (Ok asked.lined)
asked_is_lined bytes asked made = made_first (lined_work bytes) (asked_with (scope_in_file bytes) (questions_in_file bytes)) (λ (q : Questioned). q.lined) (λ (l : LinedObject). refl) asked made

pub asked_fault : (bytes : List ℕ) (fault : Fault) → Makes (questioned_work bytes) (Err fault) → Makes (lined_work bytes) (Err fault)
asked_fault bytes fault made = fault_first (lined_work bytes) (asked_with (scope_in_file bytes) (questions_in_file bytes)) fault made

pub lined_is_read : (bytes : List ℕ) (lined : LinedObject) → Makes (lined_work bytes) (Ok lined) → Makes (program_work bytes) (Ok lined.object)
lined_is_read bytes lined made = made_first (program_work bytes) (lined_with (lines_in_file bytes)) (λ (l : LinedObject). l.object) (λ (o : Object). refl) lined made

pub fault_is_read : (bytes : List ℕ) (fault : Fault) → Makes (lined_work bytes) (Err fault) → Makes (program_work bytes) (Err fault)
fault_is_read bytes fault made = fault_first (program_work bytes) (lined_with (lines_in_file bytes)) fault made
