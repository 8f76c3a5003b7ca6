-- A report that is one value of JSON.
use Rattle.commands.specs.declared.status.Status.{Status}
use Rattle.commands.specs.Serving.{Report}
use Rattle.serde_json.specs.Data.{Data}
use Rattle.json_texts.specs.Objects.{Tree, json_of, line_text}

-- a value on one line, as a report
abbrev pub line_report : Data → Status → Report
line_report value status = record { text = line_text value; status = status }

-- the report of a tree
abbrev pub value_report : Tree → Status → Report
value_report whole status = line_report (json_of whole) status
