-- `note` meets its contract: the word is 1 where the scan has found all directions in the disk, and 0 among few ends.
use Prim.Native.Nat.{◌*◌}
use mathlib.Core.Path.{◌≡◌, sym, subst, ◌∙◌}
use mathlib.Core.Bool.{Bool, false}
use lib.ListN.{set}
use mir.Val.{bool_byte}
use borrow.Author.Tests.{lt-leb}
use Rattle.pair_ends.specs.Blocks.{note_from}
use Rattle.pair_indexed.specs.Start.{Notes}
use Rattle.pair_indexed.proofs.Beginning.{notes, notes_few}
use Rattle.pair_indexed.proofs.note.Goals as goal
use Rattle.pair_indexed.proofs.note.Goals.{then-d-ge-NOTED, else-d-ge-NOTED}

pub returns : goal.returns
returns c =
    let w = c.args.w.now in
    let d = c.args.d in
    let written : Bool → Type 0 = λ b. Notes w (set w (d * note_from) (bool_byte b)) d in
    elim c.if-d-ge-NOTED.branch [
      | then-d-ge-NOTED v ↦ subst written (sym v.round-is) (notes c.requires.0 c.requires.1 v.if-d-ge-NOTED.true v.all_round-round.ensures)
      | else-d-ge-NOTED v ↦
          let few : c.if-d-ge-NOTED.round ≡ false = v.round-is ∙ lt-leb 48 d v.if-d-ge-NOTED.false in
          subst written (sym few) (notes_few c.requires.0 c.requires.1 v.if-d-ge-NOTED.false)
    ]
