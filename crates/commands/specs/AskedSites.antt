-- Sites of programs, as the command line names them: `cpu P main PLACE` or `cpu P recover PLACE`, with `cpu` or without.
use Rattle.std.specs.Prelude.{ℕ, Bool, true, false, if◌then◌else◌, Option, Result, Ok, Err, List, bytes_eq, codes}
use Rattle.std.specs.Result.{result_ok}
use Rattle.outcomes.specs.Outcomes.{◌>>=◌, required}
use Rattle.text_tokens.specs.Cursors.{Token, end_at, token_at}
use Rattle.text_tokens.specs.Numbers.{small_number_of}
use Rattle.text_tokens.specs.Text.{tokens_of}
use Rattle.commands.specs.declared.asked_site.AskedSite.{AskedSite}
use Rattle.commands.specs.declared.asked_site.NoSite.{NoSite}

-- the one fault
abbrev pub no_site : NoSite
no_site = record {}

-- the number that a token is, and the tokens after it
abbrev pub number_in : Token → List Token → Result (ℕ × List Token) NoSite
number_in token tokens = do
  number ← required no_site (small_number_of token)
  Ok (number, tokens)

-- the number that is next
unfoldable pub number_at : List Token → Result (ℕ × List Token) NoSite
number_at tokens = token_at no_site tokens >>= λ token. number_in token.0 token.1

-- P, behind `cpu` if that is there
unfoldable pub processor_at : List Token → Result (ℕ × List Token) NoSite
processor_at tokens =
    token_at no_site tokens >>= λ first. if bytes_eq first.0 (codes "cpu") then number_at first.1 else number_in first.0 first.1

-- `main` or `recover`: whether it is the recovery program
unfoldable pub program_at : List Token → Result (Bool × List Token) NoSite
program_at tokens =
    token_at no_site tokens >>= λ word.
    if bytes_eq word.0 (codes "main") then Ok (false, word.1) else if bytes_eq word.0 (codes "recover") then Ok (true, word.1) else Err no_site

-- the site that all of these tokens name
unfoldable pub site_at : List Token → Result AskedSite NoSite
site_at tokens = do
  processor ← processor_at tokens
  recovery ← program_at processor.1
  place ← number_at recovery.1
  end ← end_at no_site place.1
  Ok (record { processor = processor.0; recovery = recovery.0; place = place.0 })

-- the site that a text names, if it names one
abbrev pub site_named : List ℕ → Option AskedSite
site_named text = result_ok (site_at (tokens_of text))
