use Rattle.std.specs.Slots.{slots_items}
use Rattle.palm_desk.proofs.FirstLefts.{word_is, spelled_by}
use Rattle.palm_desk.proofs.rest.read_call.Goals as goal

pub call_of-requires : goal.call_of-requires
call_of-requires c =
    let words = slots_items c.args.closed.now.words in (
      c.requires.spelled.0,
      c.requires.spelled.1,
      spelled_by words c.args.cell c.requires.spelled.0 _ _ _ c.requires.spelled.2
          (word_is words _ _ c.word.ensures) (word_is words _ _ c.word-2.ensures) (word_is words _ _ c.word-3.ensures),
    )

pub returns : goal.returns
returns c call legal begun =
    let words = slots_items c.args.closed.now.words in
    c.call_of.ensures call legal (spelled_by words c.args.cell call _ _ _ begun (word_is words _ _ c.word.ensures) (word_is words _ _ c.word-2.ensures) (word_is words _ _ c.word-3.ensures))
