use Rattle.json_jobs.proofs.hunt_value.image_explained.Goals as goal

pub returns : goal.returns
returns c =
    rw (← c.start.view_is) (rw (c.layout.ensures, c.in_ok-missing.ensures, ← c.start.view_is) at c.explained_value.ensures)
