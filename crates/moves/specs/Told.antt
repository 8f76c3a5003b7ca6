-- Where what is told of a moved program stands in the program as it is.
use Rattle.std.specs.Prelude.{ℕ, ◌-◌, ◌==◌, Bool, true, false, nat_lt, ◌&&◌, if◌then◌else◌}
use Rattle.image_reasons.specs.declared.entries.Site.{Site}
use Rattle.image_reasons.specs.declared.repair.Repair.{Repair}
use Rattle.image_reasons.specs.Repairs.{put_at}
use Rattle.moves.specs.declared.one_move.Move.{Move}

-- whether two flags are the same
abbrev pub is_same_flag : Bool → Bool → Bool
is_same_flag true b = b
is_same_flag false true = false
is_same_flag false false = true

-- whether a site is in the program in which a store is moved
abbrev pub is_theirs : Move → Site → Bool
is_theirs one site = site.processor == one.from.processor && is_same_flag site.recovering one.from.recovering

-- The place of an instruction as the program was: the store stood where it stood, and what is behind it now is one place further there.
abbrev pub old_place : Move → ℕ → ℕ
old_place one place =
    if place == put_at one.side one.to then one.from.place else if nat_lt (put_at one.side one.to) place then place - 1 else place

-- the same of its site
abbrev pub old_site : Move → Site → Site
old_site one site = if is_theirs one site then record site { place = old_place one site.place } else site

-- an instruction that is put in, by where it is to be put into the program as it is
abbrev pub old_repair : Move → Repair → Repair
old_repair one repair = record repair { site = old_site one repair.site }
