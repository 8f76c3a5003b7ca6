-- What is read as a program, and what is refused.
use Rattle.std.proofs.Common.{◌≡◌, ◌≢◌, ℕ, suc, ◌+◌, ◌-◌, ◌*◌, ◌≤◌, ℤ, Bool, true, false, List, [], ◌∷◌, ◌++◌, length, Result, Ok, Err, refl, sym, ap, subst, ◌∙◌, arith}
use Rattle.std.specs.Prelude.{IfOk, IfErr, IfSome, MatchResult, nat_le, not, ◌&&◌}
use Rattle.std.specs.List.{flat_map, list_all, AllByRecursion}
use Rattle.std.proofs.lemmas.Bool.{leb-true, le-leb}
use Rattle.std.proofs.lemmas.List.{length-append, append-nil}
use Rattle.outcomes.specs.Outcomes.{◌>>=◌, refuse, refused_as}
use Rattle.outcomes.specs.Calls.{Answers}
use Rattle.outcomes.proofs.PartsOfOutcomes.{bind_ok}
use Rattle.isa.specs.declared.instr.Instr.{Instr}
use Rattle.isa.specs.declared.instr.Instr.TheVariants as instrs
use Rattle.isa.specs.declared.instr.MemoryOperand.TheVariants.{Word, Register}
use Rattle.isa.specs.Programs.{is_program, leads_within, max_instructions}
use Rattle.isa.specs.Loadables.{names_its_words}
use Rattle.codec.specs.declared.fault.CodeFault.{CodeFault}
use Rattle.codec.specs.declared.fault.CodeFault.TheVariants as faults
use Rattle.outcomes.specs.declared.or_no_memory.OrNoMemory.{OrNoMemory}
use Rattle.outcomes.specs.declared.or_no_memory.OrNoMemory.TheVariants.{Fault, NoMemory}
use Rattle.outcomes.specs.Faults.{fault_in}
use Rattle.codec.specs.declared.form.Form.{Form}
use Rattle.codec.specs.declared.form.Miss.{Miss}
use Rattle.codec.specs.declared.form.Miss.TheVariants as misses
use Rattle.codec.specs.Forms.{bytes_of, Fits}
use Rattle.codec.specs.Code.{form_of, forms_at, forms_of, start, code_of, max_code, HasCode, IsCode}
use Rattle.codec.specs.Reading.{form_at}
use Rattle.codec.specs.Faults.{IsFirstForm, NamesWord, IsGood, Reads, Reaches, GoesAstray, IsFault, offset}
use Rattle.codec.specs.Programs.{fault_at, good_form_at, names_word, forms_from, instrs_from, program_of}
use Rattle.codec.proofs.Numbers.{IsBytes, IsBytes-end}
use Rattle.codec.proofs.FormSizes.{sizes}
use Rattle.codec.proofs.OneForm.{read_again, cut_read, unknown_read, nothing_has_forms}
use Rattle.codec.proofs.MemoryOperands.{both, named}
use Rattle.codec.proofs.Targets.{offset_behind}
use Rattle.codec.proofs.ProgramForms.{length-forms_at, forms_are_laid, forms_of_laid}
use Rattle.codec.proofs.Resolving.{instrs_again, instrs_resolve, instrs_go_astray, astray_is_refused}
use Rattle.codec.proofs.FormLists.{FormAndRest, forms_step, forms_end, forms_full, forms_again, forms_all, forms_fault, reads_none, has_bytes}

-- good forms

form_named : (shape : List ℕ) (away : ℕ → ℤ) (i : Instr) → names_its_words shape i ≡ true → NamesWord shape (form_of away i)
unfolding form_of
form_named shape away (instrs.Memory access (Word w)) h = (w, h, refl)
form_named shape away (instrs.Memory access (Register r)) h = tt
form_named shape away _ h = tt

good_of : (shape : List ℕ) (at : ℕ → ℕ) (k : ℕ) (program : List Instr) → AllByRecursion Fits (forms_at at k program) → list_all (names_its_words shape) program ≡ true → AllByRecursion (IsGood shape) (forms_at at k program)
good_of shape at k [] fits words = tt
good_of shape at k (i ∷ program) fits words =
    let word = both (names_its_words shape i) (list_all (names_its_words shape) program) words in
    ((fits.0, form_named shape _ i word.0), good_of shape at (suc k) program fits.1 word.1)

all_fit : (shape : List ℕ) (xs : List Form) → AllByRecursion (IsGood shape) xs → AllByRecursion Fits xs
all_fit shape [] good = tt
all_fit shape (x ∷ xs) good = (good.0.0, all_fit shape xs good.1)

all_named : (shape : List ℕ) (xs : List Form) → AllByRecursion (IsGood shape) xs → AllByRecursion (NamesWord shape) xs
all_named shape [] good = tt
all_named shape (x ∷ xs) good = (good.0.1, all_named shape xs good.1)

-- how long a program is

pub few_instructions : (program : List Instr) → is_program program ≡ true → length program ≤ max_instructions
few_instructions program e = leb-true (length program) max_instructions (both (nat_le (length program) max_instructions) (list_all (leads_within (length program)) program) e).0

flat_small : (xs : List Form) → length (flat_map bytes_of xs) ≤ 12 * length xs
flat_small [] = omega arith
flat_small (x ∷ xs) = omega (arith, (sizes x).few, flat_small xs, length-append (bytes_of x) (flat_map bytes_of xs))

pub code_few : (program : List Instr) → is_program program ≡ true → length (code_of program) ≤ max_code
unfolding code_of
code_few program sound = omega (arith, flat_small (forms_of program), length-forms_at (start program) 0 program, few_instructions program sound)

pub code_short : (shape : List ℕ) (program : List Instr) → HasCode shape program → length (code_of program) ≤ max_code
code_short shape program h = code_few program h.sound

-- what is read as a program is its code

pub program_sound : (shape : List ℕ) (xs : List Form) (program : List Instr) → length xs ≤ max_instructions → instrs_from shape xs 0 xs ≡ Ok program → is_program program ≡ true
program_sound shape xs program le e =
    let r = instrs_resolve shape xs 0 xs program e in
    let long : length program ≡ length xs = sym (length-forms_at (offset xs) 0 program) ∙ ap length r.forms in
    let few : nat_le (length program) max_instructions ≡ true = le-leb (length program) max_instructions (omega (arith, long)) in
    let leads : list_all (leads_within (length program)) program ≡ true = ap (λ (n : ℕ). list_all (leads_within n) program) long ∙ r.leads in
    ap (λ (q : Bool). q && list_all (leads_within (length program)) program) few ∙ leads

pub program_only : (shape bytes : List ℕ) (program : List Instr) → IsBytes bytes → program_of shape bytes ≡ Ok program → IsCode shape program bytes
unfolding program_of code_of
program_only shape bytes program fits e =
    let b = bind_ok (forms_from shape max_instructions 0 bytes) (λ xs. instrs_from shape xs 0 xs) program e in
    let xs : List Form = b.0 in
    let a = forms_all shape max_instructions 0 bytes xs fits b.1 in
    let r = instrs_resolve shape xs 0 xs program b.2 in
    let same : forms_of program ≡ xs = forms_are_laid xs program r.forms in
    record {
      has = record {
        sound = program_sound shape xs program a.few b.2;
        words = r.words;
        fits = subst (AllByRecursion Fits) (sym same) (all_fit shape xs a.reads.good);
      };
      same = a.reads.parts ∙ append-nil (flat_map bytes_of xs) ∙ ap (flat_map bytes_of) (sym same);
    }

-- the code of a program is read as that program

room_for : (n : ℕ) → n ≤ max_instructions → max_instructions ≡ n + (max_instructions - n)
room_for n le = omega arith

forms_whole : (shape bytes : List ℕ) (xs : List Form) → Reads shape bytes xs [] → length xs ≤ max_instructions → forms_from shape max_instructions 0 bytes ≡ Ok xs
forms_whole shape bytes xs r few =
    let room : ℕ = max_instructions - length xs in
    let end : ℕ = length (flat_map bytes_of xs) in
    ap (forms_from shape max_instructions 0) r.parts
    ∙ forms_again shape xs room max_instructions 0 end [] (room_for (length xs) few) (omega arith) r.good
    ∙ ap (λ (q : Result (List Form) CodeFault). q >>= λ ys. Ok (xs ++ ys)) (forms_end shape room end)
    ∙ ap (λ (ys : List Form). Ok ys) (append-nil xs)

pub program_all : (shape bytes : List ℕ) (program : List Instr) → IsCode shape program bytes → program_of shape bytes ≡ Ok program
unfolding program_of code_of
program_all shape bytes program c =
    let xs : List Form = forms_of program in
    let good : AllByRecursion (IsGood shape) xs = good_of shape (start program) 0 program c.has.fits c.has.words in
    let long : length xs ≡ length program = length-forms_at (start program) 0 program in
    let few : length xs ≤ max_instructions = omega (arith, long, few_instructions program c.has.sound) in
    let reads : Reads shape bytes xs [] = record { parts = c.same ∙ sym (append-nil (flat_map bytes_of xs)); good = good } in
    let leads : list_all (leads_within (length xs)) program ≡ true =
    ap (λ (n : ℕ). list_all (leads_within n) program) long ∙ (both (nat_le (length program) max_instructions) (list_all (leads_within (length program)) program) c.has.sound).1 in
    ap (λ (r : Result (List Form) CodeFault). r >>= λ ys. instrs_from shape ys 0 ys) (forms_whole shape bytes xs reads few)
    ∙ ap (instrs_from shape xs 0) (sym (forms_of_laid program))
    ∙ instrs_again shape xs 0 program c.has.words leads

-- a fault that is answered is the stated one

fault_of_parts : (shape bytes : List ℕ) (r : Result (List Form) CodeFault) (fault : CodeFault) → IsBytes bytes → forms_from shape max_instructions 0 bytes ≡ r
    → (r >>= λ xs. instrs_from shape xs 0 xs) ≡ Err fault → IsFault shape bytes fault
fault_of_parts shape bytes (Err other) fault fits e f =
    let same : other ≡ fault = cc in
    let found : forms_from shape max_instructions 0 bytes ≡ Err fault = e ∙ ap (λ (c : CodeFault). Err c) same in
    forms_fault shape bytes [] bytes max_instructions 0 fault (record { reads = reads_none shape bytes; room_is = refl; here = refl; fits = fits }) found
fault_of_parts shape bytes (Ok xs) fault fits e f =
    let a = forms_all shape max_instructions 0 bytes xs fits e in
    let s = instrs_go_astray shape xs [] xs 0 fault refl refl tt (all_named shape xs a.reads.good) f in
    subst (IsFault shape bytes) (sym s.is) (xs, a.reads, a.few, s.astray)

pub program_fault : (shape bytes : List ℕ) (fault : CodeFault) → IsBytes bytes → program_of shape bytes ≡ Err fault → IsFault shape bytes fault
unfolding program_of
program_fault shape bytes fault fits e = fault_of_parts shape bytes (forms_from shape max_instructions 0 bytes) fault fits refl e

-- the stated fault is answered

refused_program : (shape bytes : List ℕ) (fault : CodeFault) → forms_from shape max_instructions 0 bytes ≡ Err fault → program_of shape bytes ≡ Err fault
unfolding program_of
refused_program shape bytes fault e = ap (λ (r : Result (List Form) CodeFault). r >>= λ xs. instrs_from shape xs 0 xs) e

too_long : (shape bytes : List ℕ) (xs : List Form) (rest : List ℕ) → Reads shape bytes xs rest → length xs ≡ max_instructions → rest ≢ [] → program_of shape bytes ≡ Err faults.TooLong
too_long shape bytes xs rest r long some =
    let end : ℕ = length (flat_map bytes_of xs) in
    refused_program shape bytes faults.TooLong
    (ap (forms_from shape max_instructions 0) r.parts
    ∙ forms_again shape xs 0 max_instructions 0 end rest (omega (arith, long)) (omega arith) r.good
    ∙ ap (λ (q : Result (List Form) CodeFault). q >>= λ ys. Ok (xs ++ ys)) (forms_full shape end rest some))

reached_fault : (shape bytes : List ℕ) (at : ℕ) (rest : List ℕ) (fault : CodeFault) → Reaches shape bytes at rest → rest ≢ [] → good_form_at shape at rest ≡ Err fault → program_of shape bytes ≡ Err fault
reached_fault shape bytes at rest fault r some e =
    let room : ℕ = max_instructions - suc (length r.xs) in
    let all : max_instructions ≡ length r.xs + suc room = omega (arith, r.room) in
    refused_program shape bytes fault
    (ap (forms_from shape max_instructions 0) r.reads.parts
    ∙ forms_again shape r.xs (suc room) max_instructions 0 at rest all (omega (arith, r.here)) r.reads.good
    ∙ ap (λ (q : Result (List Form) CodeFault). q >>= λ ys. Ok (r.xs ++ ys))
    (forms_step shape room at rest some ∙ ap (λ (q : Result FormAndRest CodeFault). q >>= λ x. forms_from shape room (at + length (bytes_of x.0)) x.1 >>= λ ys. Ok (x.0 ∷ ys)) e))

unnamed : (shape : List ℕ) (x : Form) (q : Bool) → names_word shape x ≡ q → (NamesWord shape x → ⊥) → q ≡ false
unnamed shape x true e fails = absurd (fails (named shape x e))
unnamed shape x false e fails = refl

bad_address : (shape : List ℕ) (at : ℕ) (rest : List ℕ) (x : Form) (after : List ℕ) → IsFirstForm rest x after → (NamesWord shape x → ⊥) → good_form_at shape at rest ≡ Err (faults.BadAddress at)
bad_address shape at rest x after s fails =
    ap (λ (r : Result FormAndRest Miss). refused_as (fault_at at) r >>= λ y. refuse (faults.BadAddress at) (not (names_word shape y.0)) >>= λ named. Ok y) (read_again rest x after s)
    ∙ ap (λ (q : Bool). refuse (faults.BadAddress at) (not q) >>= λ named. Ok (x, after)) (unnamed shape x (names_word shape x) refl fails)

missed : (shape : List ℕ) (at : ℕ) (rest : List ℕ) (miss : Miss) → form_at rest ≡ Err miss → good_form_at shape at rest ≡ Err (fault_at at miss)
missed shape at rest miss e = ap (λ (r : Result FormAndRest Miss). refused_as (fault_at at) r >>= λ y. refuse (faults.BadAddress at) (not (names_word shape y.0)) >>= λ named. Ok y) e

rest_fits : (shape bytes : List ℕ) (xs : List Form) (rest : List ℕ) → IsBytes bytes → Reads shape bytes xs rest → IsBytes rest
rest_fits shape bytes xs rest fits r = IsBytes-end (flat_map bytes_of xs) rest (subst IsBytes r.parts fits)

stands_some : (rest : List ℕ) (x : Form) (after : List ℕ) → IsFirstForm rest x after → rest ≢ []
stands_some rest x after s e = has_bytes x after (sym s.parts ∙ e)

bad_target : (shape bytes : List ℕ) (at : ℕ) (xs : List Form) → Reads shape bytes xs [] → length xs ≤ max_instructions → GoesAstray xs at → program_of shape bytes ≡ Err (faults.BadTarget at)
unfolding program_of
bad_target shape bytes at xs r few a =
    let words : AllByRecursion (NamesWord shape) (a.before ++ a.x ∷ a.after) = subst (AllByRecursion (NamesWord shape)) a.parts (all_named shape xs r.good) in
    let here : offset xs (length a.before) ≡ at = ap (λ (ys : List Form). offset ys (length a.before)) a.parts ∙ offset_behind a.before (a.x ∷ a.after) ∙ sym a.here in
    ap (λ (q : Result (List Form) CodeFault). q >>= λ ys. instrs_from shape ys 0 ys) (forms_whole shape bytes xs r few)
    ∙ ap (instrs_from shape xs 0) a.parts
    ∙ astray_is_refused shape xs 0 a.before a.x a.after (length a.before) (omega arith) a.lead words a.astray
    ∙ ap (λ (n : ℕ). Err (faults.BadTarget n)) here

pub program_faults : (shape bytes : List ℕ) (fault : CodeFault) → IsBytes bytes → IsFault shape bytes fault → program_of shape bytes ≡ Err fault
program_faults shape bytes faults.TooLong fits h = too_long shape bytes h.0 h.1 h.2 h.3 h.4
program_faults shape bytes (faults.BadAddress at) fits h = reached_fault shape bytes at h.0 (faults.BadAddress at) h.3 (stands_some h.0 h.1 h.2 h.4) (bad_address shape at h.0 h.1 h.2 h.4 h.5)
program_faults shape bytes (faults.Truncated at) fits h = reached_fault shape bytes at h.0 (faults.Truncated at) h.1 h.2 (missed shape at h.0 misses.Truncated (cut_read h.0 (rest_fits shape bytes h.1.xs h.0 fits h.1.reads) h.3))
program_faults shape bytes (faults.Unknown at) fits h = reached_fault shape bytes at h.0 (faults.Unknown at) h.1 (nothing_has_forms h.0 h.2) (missed shape at h.0 misses.Unknown (unknown_read h.0 (rest_fits shape bytes h.1.xs h.0 fits h.1.reads) h.2))
program_faults shape bytes (faults.BadTarget at) fits h = bad_target shape bytes at h.0 h.1 h.2 h.3

-- what an answer of the reader says

pub program_of_parts : (shape bytes : List ℕ) (xs : List Form) → forms_from shape max_instructions 0 bytes ≡ Ok xs → program_of shape bytes ≡ instrs_from shape xs 0 xs
unfolding program_of
program_of_parts shape bytes xs e = ap (λ (r : Result (List Form) CodeFault). r >>= λ ys. instrs_from shape ys 0 ys) e

pub code_from : (shape bytes : List ℕ) (r : Result (List Instr) (OrNoMemory CodeFault)) → IsBytes bytes → Answers fault_in (program_of shape bytes) r → IfOk r (λ program. IsCode shape program bytes)
code_from shape bytes (Ok program) fits told = program_only shape bytes program fits told
code_from shape bytes (Err error) fits told = tt

pub only_from : (shape bytes : List ℕ) (r : Result (List Instr) (OrNoMemory CodeFault)) → Answers fault_in (program_of shape bytes) r → (program : List Instr) → IsCode shape program bytes → Answers fault_in (Ok program) r
only_from shape bytes (Ok other) told program c = sym (program_all shape bytes program c) ∙ told
only_from shape bytes (Err (Fault fault)) told program c = sym (program_all shape bytes program c) ∙ told
only_from shape bytes (Err NoMemory) told program c = tt

pub fault_from : (shape bytes : List ℕ) (r : Result (List Instr) (OrNoMemory CodeFault)) → IsBytes bytes → Answers fault_in (program_of shape bytes) r → IfErr r (λ error. IfSome (fault_in error) (IsFault shape bytes))
fault_from shape bytes (Ok program) fits told = tt
fault_from shape bytes (Err (Fault fault)) fits told = program_fault shape bytes fault fits told
fault_from shape bytes (Err NoMemory) fits told = tt

again_from : (program : List Instr) (r : Result (List Instr) (OrNoMemory CodeFault)) → Answers fault_in (Ok program) r → MatchResult r (λ again. again ≡ program) (λ error. error ≡ NoMemory)
again_from program (Ok other) told = (let same : program ≡ other = cc in sym same)
again_from program (Err (Fault fault)) told = absurd cc
again_from program (Err NoMemory) told = refl

pub read_again_from : (shape bytes : List ℕ) (program : List Instr) (r : Result (List Instr) (OrNoMemory CodeFault)) → is_program program ≡ true → list_all (names_its_words shape) program ≡ true → AllByRecursion Fits (forms_of program) → bytes ≡ code_of program
    → ((other : List Instr) → IsCode shape other bytes → Answers fault_in (Ok other) r) → MatchResult r (λ again. again ≡ program) (λ error. error ≡ NoMemory)
read_again_from shape bytes program r sound words fits same only = again_from program r (only program (record { has = record { sound = sound; words = words; fits = fits }; same = same }))
