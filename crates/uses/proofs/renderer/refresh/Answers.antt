use Rattle.uses.proofs.renderer.refresh.Goals as goal

pub returns-clause-follows : goal.returns-clause-follows
returns-clause-follows g c =
    c.flush_changes_older_than-2.ensures.follows c.flush_changes_older_than.new.self (c.flush_changes_older_than.ensures.preserves.viewers c.follow.new.self (c.follow.ensures.follows c.requires))
