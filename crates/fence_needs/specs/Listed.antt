-- What a list of needs says of a program.
use Rattle.std.specs.Prelude.{◌≡◌, ℕ, true, Some, List, slice_get}
use Rattle.isa.specs.Objects.{Object}
use Rattle.image_reasons.specs.declared.entries.Site.{Site}
use Rattle.fence_needs.specs.declared.need.SiteNeed.{SiteNeed}
use Rattle.fence_needs.specs.Sites.{instr_at, is_fence}

-- A need of the list is that of this site.
abbrev pub HasSite : List SiteNeed → Site → Type 0
HasSite needs site = (i : ℕ) × (one : SiteNeed) × (slice_get needs i ≡ Some one) × (one.site ≡ site)

-- Each flush and each fence of a program is in the list once, with its instruction, and nothing else is.
pub record ListsEachOnce (object : Object) (needs : List SiteNeed) : Type 0 where
  pub each : (site : Site) → is_fence (instr_at object site) ≡ true → HasSite needs site
  pub fence : (i : ℕ) (one : SiteNeed) → slice_get needs i ≡ Some one → is_fence one.instr ≡ true
  pub instr : (i : ℕ) (one : SiteNeed) → slice_get needs i ≡ Some one → one.instr ≡ instr_at object one.site
  pub once : (i j : ℕ) (one other : SiteNeed) → slice_get needs i ≡ Some one → slice_get needs j ≡ Some other → one.site ≡ other.site → i ≡ j
