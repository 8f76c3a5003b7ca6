-- The coherent values, which are kept beside the pending list and the persisted values. No rule of the model, and in no public clause.
use Rattle.std.specs.Prelude.{◌≡◌, ℕ, ◌<◌, List, length, slice_index}
use Rattle.lines_layout.specs.Lines.{max_words}
use Rattle.persist_buffer.specs.State.{Memory}
use Rattle.persist_buffer.specs.Memories.{coherent}

-- There is a value for each word, and it is the word's coherent one.
pub record AreCoherent (values : List ℕ) (memory : Memory) : Type 0 where
  pub kept : length values ≡ max_words
  pub whole : length memory.persisted ≡ max_words
  pub same : (word : ℕ) → word < max_words → slice_index values word ≡ coherent memory word
