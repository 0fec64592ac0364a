use Rattle.chain_keys.specs.Keys.{both_keyed}
use Rattle.chain_keys.proofs.put_both.Goals as goal

pub returns : goal.returns
unfolding both_keyed
returns c =
    rw (
      c.put_words-2.ensures,
      c.put_words.ensures,
      c.group_of-group.ensures,
      c.words_of.ensures.x,
      c.words_of.ensures.y,
      c.words_of-2.ensures.x,
      c.words_of-2.ensures.y,
      c.point_at-first.ensures.x,
      c.point_at-first.ensures.y,
      c.point_at-last.ensures.x,
      c.point_at-last.ensures.y,
    )
