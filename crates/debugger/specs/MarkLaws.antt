-- What holds of the lengths with a checkpoint, whatever was called.
use Rattle.std.specs.Prelude.{◌≡◌, ℕ, ◌+◌, ◌-◌, ◌*◌, ◌%◌, ◌<◌, ◌≤◌, List, true, IfSome}
use Rattle.std.specs.List.{All, AllPairs}
use Rattle.circular_buffer.specs.Buffer.{last_item}
use Rattle.machine.specs.declared.step.Step.{Step}
use Rattle.debugger.specs.Halts.{made}
use Rattle.debugger.specs.Marks.{mark_distance, mark_room, is_marked, marks_after, marks_kept, replayed_of, tried}
use Rattle.debugger.specs.declared.halt.Halt.{Halt}

-- how far checkpoints surely reach back: from one that was just made to the oldest that is kept beside it, 1,984 steps
abbrev pub mark_reach : ℕ
mark_reach = mark_distance * (mark_room - 1)

-- each is smaller than those after it
abbrev pub IsRising : List ℕ → Type 0
IsRising marks = AllPairs (λ x y. x < y) marks

-- Lengths with a checkpoint, where the history has n steps and had at most top. They rise; each is a multiple of the distance, not 0 and not beyond n. All multiples below n are among them, but for those too far behind top.
pub record AreMarks (marks : List ℕ) (n top : ℕ) : Type 0 where
  pub rising : IsRising marks
  pub multiples : All (λ m. (0 < m) × (m % mark_distance ≡ 0)) marks
  pub within : All (λ m. m ≤ n) marks
  pub seen : n ≤ top
  pub recent : (m : ℕ) → 0 < m → m < n → m % mark_distance ≡ 0 → top < m + mark_room * mark_distance → is_marked marks m ≡ true

-- a length with a checkpoint, not beyond an aim and the greatest of these
pub record IsGreatest (marks : List ℕ) (aim m : ℕ) : Type 0 where
  pub marked : is_marked marks m ≡ true
  pub within : m ≤ aim
  pub greatest : (x : ℕ) → is_marked marks x ≡ true → x ≤ aim → x ≤ m

-- the last that is not beyond an aim is the greatest of these
abbrev pub LastIsGreatest : List ℕ → ℕ → Type 0
LastIsGreatest marks aim = IfSome (last_item (marks_kept marks aim)) (IsGreatest marks aim)

-- What holds of lengths with a checkpoint, where the history has so many steps and had at most so many, holds after a go: from n steps on, which never were more than top, and after which they are not more than reached.
abbrev pub IsKeptByGoing : (List ℕ → ℕ → ℕ → Type 0) → Type 0
IsKeptByGoing P =
    (marks : List ℕ) (n top reached : ℕ) (steps : List Step) (halt : Halt) → P marks n top → top ≤ reached → n + made steps halt ≤ reached
    → P (marks_after marks n (tried steps halt)) (n + made steps halt) reached

-- and after going back to an aim
abbrev pub IsKeptByGoingBack : (List ℕ → ℕ → ℕ → Type 0) → Type 0
IsKeptByGoingBack P = (marks : List ℕ) (n top aim : ℕ) → P marks n top → aim ≤ n → P (marks_kept marks aim) aim top

-- going back by a step or more replays fewer steps than this, where it leaves at most 1,984 fewer than the history ever had
abbrev pub ReplaysFewerThan : ℕ → Type 0
ReplaysFewerThan most = (marks : List ℕ) (n top aim : ℕ) → AreMarks marks n top → aim < n → top ≤ aim + mark_reach → replayed_of marks aim < most

-- going back by no step replays at most this, where the history ever had fewer than 1,984 more
abbrev pub ReplaysHereAtMost : ℕ → Type 0
ReplaysHereAtMost most = (marks : List ℕ) (n top : ℕ) → AreMarks marks n top → top < n + mark_reach → replayed_of marks n ≤ most
