use Rattle.store.proofs.start.Goals as goal

pub shape_of-words : goal.shape_of-words
shape_of-words c = c.start_with.auto.words

pub returns : goal.returns
returns c = c.start_with.ensures
