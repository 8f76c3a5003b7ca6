-- The limits of questions.
use Rattle.std.specs.Prelude.{ℕ}

-- how many questions a sheet may have
abbrev pub max_questions : ℕ
max_questions = 64

-- how many tokens an item may have
abbrev pub max_tokens : ℕ
max_tokens = 1024

-- how large an item may be: its numbers, words and registers, its `not`s and square brackets, with those of what it names
abbrev pub max_size : ℕ
max_size = 4096

-- how many brackets and `not`s may be open at once
abbrev pub max_depth : ℕ
max_depth = 64
