use Rattle.debug_scripts.proofs.session_text.push_watch.Goals as goal

pub returns : goal.returns
returns g c = rw c.notes-notes.ensures at c.push_noted.ensures
