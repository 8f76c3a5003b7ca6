-- The object of the report of `debug`.
use Rattle.std.specs.Prelude.{codes}
use Rattle.serde_json.specs.Data.{Data, no_members, object, put}
use Rattle.json_texts.specs.Objects.{header, with_fields}

-- the object with these replies
abbrev pub headed : Data → Data
headed replies = object (put (codes "replies") replies (with_fields no_members (header (codes "debug"))))
