-- Lent pieces that pass 19 are held once they are taken in: each record names in the block what it named of the lent slices, and its coordinates stay where
-- they are. So a round takes them as lent, in any order, with gaps and overlaps.
use Prim.Native.Nat.{ℕ, suc, ◌+◌, ◌*◌, ◌≤◌, ◌<◌}
use mathlib.Core.Path.{◌≡◌, refl, sym, ap, ap₂, ◌∙◌, subst}
use mathlib.Core.List.{[], List, ◌∷◌, ◌++◌, map, flat_map}
use native.Mathlib.Omega.{arith}
use lib.ListN.{length, get_or, take, drop}
use lib.Seq.{slice, get_or-take, get_or-drop}
use Rattle.rules.specs.Lists.{upto}
use Rattle.rules.specs.Chaining.{Piece, nothing}
use Rattle.rules.specs.Layout.{Lines, lent, lines_in}
use Rattle.rules.specs.Refusals.{most_lines, piece_size, source_of}
use Rattle.rules.specs.Pieces.{LentPieces, member_count, point_count, part_of, named, numbers_at, standing, stood_for}
use Rattle.chain_laws.proofs.Counts.{each_get_d, upto_length}
use Rattle.chain_laws.proofs.Sound.{Sound}
use Rattle.point_numbers.specs.Width.{AllWide}
use Rattle.point_numbers.proofs.Points.{points_back}
use Rattle.point_slices.proofs.Laws.{slice_part}
use Rattle.chain_pieces.specs.Held.{lines_of, block_pieces, PieceStands, Held}
use Rattle.chain_pieces.specs.Map.{join_block, listing_block, mark_block, member_block, node_block, taken_block, taken_listing, taken_marks, taken_members}
use Rattle.chain_pieces.proofs.Reading.{block_at, block_part, get_d_part, part_part}
use Rattle.build_lines.specs.Taken.{Adds}
use Rattle.lent_laws.specs.Passes.{Passes}
use Rattle.lent_laws.specs.Good.{Good}
use Rattle.lent_laws.proofs.Fitting.{members_long, numbers_long, points_long, stood_good, stood_few}
use Rattle.lent_laws.proofs.Passing.{good_own, good_lines}
use Rattle.lent_taking.specs.Taking.{part_at, parts_to, taken_row, Inside, PiecesTakable, Took}
use Rattle.lent_taking.proofs.Parts.{part_at_lem, part_fits, parts_length, same_length, made_at}
use Rattle.lent_taking.proofs.Steps.{part_long}

map_long : {A B : Type 0} (f : A → B) (l : List A) → length (map f l) ≡ length l
map_long f [] = refl
map_long f (a ∷ l) = ap suc (map_long f l)

module _ (w : ℕ) (l : Lines) (adds : Adds w l.counts l.coordinates) (p : LentPieces) (ok : Passes w l p) where
  abbrev n : ℕ
  n = length l.counts

  abbrev k : ℕ
  k = p.number

  abbrev ps : List Piece
  ps = stood_for w l p

  good : Good w l (stood_for w l p)
  good = stood_good w l adds p ok

  pub stood_long : length (stood_for w l p) ≡ p.number
  unfolding stood_for
  stood_long = map_long (standing w l p) (upto k) ∙ upto_length k

  stood_at : (q : ℕ) → q < k → get_or ps q nothing ≡ standing w l p q
  unfolding stood_for
  stood_at q b = made_at (standing w l p) nothing k q b

  inside : (q : ℕ) → q < k → Inside p.records p.members p.marks p.listing q
  inside q b =
      let f = (ok.fine q b).frame in
      record { members_in = f.members_in; marks_in = f.marks_in; listing_in = f.listing_in }

  -- the members are as many as the plain lines
  stood_lines : lines_of (stood_for w l p) ≡ parts_to p.records p.members p.number
  unfolding stood_for standing part_of flat_map
  stood_lines = flat_made (upto k)
    where
      flat_made : (t : List ℕ) → lines_of (map (standing w l p) t) ≡ flat_map (part_at p.records p.members) t
      flat_made [] = refl
      flat_made (a ∷ t) = ap (λ (r : List ℕ). part_at p.records p.members a ++ r) (flat_made t)

  pub lines_few : length (lines_of (stood_for w l p)) ≤ length l.counts
  lines_few = good_lines w l (stood_for w l p) good

  pub takable : (ws : List ℕ) → length l.counts ≤ most_lines → length l.counts * node_block ≤ length ws
      → PiecesTakable ws (length l.counts) p.number p.records p.members p.marks p.listing
  takable ws few room =
      record {
        few = few;
        number = stood_few w l adds p ok;
        room = room;
        records_in = ok.inside;
        inside = inside;
        members_few = omega (arith, ap length stood_lines, lines_few);
      }

  module _ {ws ws₀ : List ℕ} {m : ℕ} (room : length l.counts * node_block ≤ length ws) (t : Took ws ws₀ (length l.counts) p.number p.records p.members p.marks p.listing m) where
    abbrev base : ℕ
    base = n * taken_block

    abbrev b₀ : List ℕ
    b₀ = block_at ws base n

    abbrev lines : Lines
    lines = lent l.coordinates l.counts [] []

    abbrev block : LentPieces
    block = block_pieces n b₀ p.merged (length ps)

    module _ (q : ℕ) (b : q < k) where
      abbrev row : List ℕ
      row = taken_row p.records p.members q

      few_pieces : k ≤ n
      few_pieces = stood_few w l adds p ok

      -- ---- the record's words

      word : (i : ℕ) → i < piece_size → get_or b₀ (q * piece_size + i) 0 ≡ get_or row i 0
      word i c =
          let rows = flat_map (taken_row p.records p.members) (upto k) in
          get_or-take (n * join_block) (drop base ws) (q * piece_size + i) 0 (omega (arith, few_pieces))
          ∙ get_or-drop base ws (q * piece_size + i) 0
          ∙ sym (get_d_part base (k * piece_size) ws (q * piece_size + i) (omega arith))
          ∙ ap (λ (r : List ℕ). get_or r (q * piece_size + i) 0) t.records
          ∙ sym (get_or-drop (q * piece_size) rows i 0)
          ∙ sym (get_or-take piece_size (drop (q * piece_size) rows) i 0 c)
          ∙ ap (λ (r : List ℕ). get_or r i 0) (part_at_lem (taken_row p.records p.members) q k (q * piece_size) piece_size b (parts_length (taken_row p.records p.members) piece_size (λ i. refl) q) refl)

      first : get_or b₀ (q * piece_size) 0 ≡ length (parts_to p.records p.members q)
      first = let e : q * piece_size ≡ q * piece_size + 0 = omega arith in ap (λ (i : ℕ). get_or b₀ i 0) e ∙ word 0 (omega arith)

      count_is : get_or b₀ (q * piece_size + 1) 0 ≡ member_count w l p q
      count_is = word 1 (omega arith)

      lent_long : length (part_at p.records p.members q) ≡ member_count w l p q
      lent_long = part_long p.records p.members q (inside q b).members_in

      within_members : length (parts_to p.records p.members q) + member_count w l p q ≤ m
      within_members = omega (arith, t.number, part_fits (part_at p.records p.members) q k b, lent_long)

      members_most : m ≤ n
      members_most = omega (arith, t.number, ap length stood_lines, lines_few)

      -- ---- what it names in a block that has a number for each member

      block_of : (blk : ℕ) (s : List ℕ) → blk < join_block → slice (base + n * blk) (base + n * blk + m) ws ≡ parts_to p.records s k
          → ((i : ℕ) → i < k → get_or p.records (i * piece_size) 0 + get_or p.records (i * piece_size + 1) 0 ≤ length s)
          → part_of w lines block (drop (n * blk) b₀) q ≡ part_at p.records s q
      unfolding part_of
      block_of blk s c stands fits =
          let f = length (parts_to p.records p.members q) in
          ap₂ (λ (i j : ℕ). take j (drop i (drop (n * blk) b₀))) first count_is
          ∙ sym (block_part ws base n blk f (member_count w l p q) c (omega (arith, within_members, members_most)))
          ∙ slice_part (base + n * blk + f) (member_count w l p q) ws
          ∙ sym (part_part (base + n * blk) m ws f (member_count w l p q) within_members)
          ∙ ap (λ (r : List ℕ). take (member_count w l p q) (drop f r)) stands
          ∙ part_at_lem (part_at p.records s) q k f (member_count w l p q) b
          (same_length (part_at p.records s) (part_at p.records p.members) q
          (λ i h. part_long p.records s i (fits i (omega arith)) ∙ sym (part_long p.records p.members i (inside i (omega arith)).members_in)))
          (part_long p.records s q (fits q b))

      there : (blk place : ℕ) (s : List ℕ) → n * taken_block + n * blk ≡ n * place → slice (n * place) (n * place + m) ws ≡ s → slice (base + n * blk) (base + n * blk + m) ws ≡ s
      there blk place s e h = ap (λ (i : ℕ). slice i (i + m) ws) e ∙ h

      -- ---- its coordinates

      numbers_same : numbers_at w lines block q ≡ numbers_at w l p q
      unfolding numbers_at
      numbers_same =
          ap (λ (i : ℕ). take (get_or b₀ (q * piece_size + 4) 0 * w) (drop (get_or b₀ (q * piece_size + 3) 0 * w) (source_of i l.coordinates p.merged))) (word 2 (omega arith))
          ∙ ap₂ (λ (i j : ℕ). take (j * w) (drop (i * w) (named w l p q))) (word 3 (omega arith)) (word 4 (omega arith))

      stands_for : PieceStands w n lines block q (standing w l p q)
      unfolding standing part_of
      stands_for =
          let f = ok.fine q b in
          record {
            inside = omega (arith, first, count_is, within_members, members_most);
            member_count_lem = count_is ∙ sym (members_long w l adds p ok q b);
            point_count_lem = word 4 (omega arith) ∙ sym (points_long w l adds p ok q b);
            members =
                block_of member_block p.members (omega arith) (there member_block taken_members (parts_to p.records p.members k) (omega arith) t.listed) (λ i h. (inside i h).members_in);
            marks =
                block_of mark_block p.marks (omega arith) (there mark_block taken_marks (parts_to p.records p.marks k) (omega arith) t.turned) (λ i h. (inside i h).marks_in);
            listing =
                block_of listing_block p.listing (omega arith) (there listing_block taken_listing (parts_to p.records p.listing k) (omega arith) t.passed) (λ i h. (inside i h).listing_in);
            place = λ d. word 3 (omega arith) ∙ (f.own (sym (members_long w l adds p ok q b) ∙ d)).first;
            within = rw (word 2 (omega arith), word 3 (omega arith), word 4 (omega arith)) f.frame.points_in;
            numbers = numbers_same ∙ sym (points_back w (numbers_at w l p q) adds.two (record { number = point_count w l p q; long = numbers_long w l adds p ok q b }));
          }

    -- WHAT IS LENT IS HELD
    pub taken_held : Held w ws (length l.counts * taken_block) (length l.counts) l.coordinates p.merged l.counts (stood_for w l p)
    taken_held =
        record {
          few = omega (arith, stood_long, stood_few w l adds p ok);
          listed = lines_few;
          room = omega (arith, room);
          stands = λ q b.
              subst (PieceStands w n lines block q) (sym (stood_at q (omega (arith, stood_long)))) (stands_for q (omega (arith, stood_long)));
          drawn = λ q b. (each_get_d (Sound (lines_in w l)) ps q nothing good.sound b).drawn;
          full = λ q b. (each_get_d (Sound (lines_in w l)) ps q nothing good.sound b).full;
          own = λ q b d. good_own w l adds ps good q b d;
          wide = λ q b. each_get_d (λ (r : Piece). AllWide w r.points) ps q nothing good.wide b;
        }

    pub taken_lines : m ≡ length (lines_of (stood_for w l p))
    taken_lines = t.number ∙ ap length (sym stood_lines)
