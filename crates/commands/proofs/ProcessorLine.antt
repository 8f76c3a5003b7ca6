-- The line of a processor, in two parts.
use Rattle.std.proofs.Common.{◌≡◌, ℕ, Bool, Option, Some, None, ◌++◌, codes, append_assoc}
use Rattle.std.specs.Prelude.{IfSome, option_map}
use Rattle.std.specs.Option.{option_and_then}
use Rattle.std.proofs.lemmas.Option.{same_Some}
use Rattle.machine.specs.State.{Processor}
use Rattle.machine.specs.Processors.{halted}
use Rattle.commands.specs.StateTexts.{end_of_line, progress_text, flag_text, site_text, cpu_line}
use Rattle.lines_layout.specs.Names.{Text}

in_two : (text site progress flag : Text) → (text ++ site) ++ (codes " " ++ (progress ++ (codes " zf " ++ (flag ++ end_of_line))))
    ≡ text ++ (site ++ codes " " ++ progress ++ codes " zf " ++ flag ++ end_of_line)
in_two text site progress flag = simp append_assoc

pub cpu_line_more : (cpu : Option Processor) (p place : ℕ) (trap : Option ℕ) (recovers stopped zero : Bool) (progress flag text middle new : Text)
    → option_map (λ c. c.recovering) cpu ≡ Some recovers → option_map (λ c. c.place) cpu ≡ Some place
    → option_map halted cpu ≡ Some stopped → option_map (λ c. c.regs.zero) cpu ≡ Some zero
    → trap ≡ option_and_then (λ c. c.trap) cpu → progress ≡ progress_text trap stopped → flag ≡ flag_text zero
    → middle ≡ text ++ site_text p recovers place
    → new ≡ middle ++ (codes " " ++ (progress ++ (codes " zf " ++ (flag ++ end_of_line))))
    → IfSome cpu (λ c. new ≡ text ++ cpu_line p c)
cpu_line_more None p place trap recovers stopped zero progress flag text middle new a b d e t g h first second = tt
cpu_line_more (Some c) p place trap recovers stopped zero progress flag text middle new a b d e t g h first second =
    rw (second, first, g, h, t, ← same_Some _ _ a, ← same_Some _ _ b, ← same_Some _ _ d, ← same_Some _ _ e) (in_two text (site_text p c.recovering c.place) (progress_text c.trap (halted c)) (flag_text c.regs.zero))
