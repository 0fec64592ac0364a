-- The listing of what is built, record by record: the lines that a record names are its chain's, and they are inside the listing.
use Prim.Native.Nat.{ℕ, zero, suc, ◌+◌, ◌-◌, ◌≤◌, ◌<◌}
use mathlib.Core.Path.{◌≡◌, refl, sym, ap, ◌∙◌}
use mathlib.Core.List.{List, [], ◌∷◌, ◌++◌, map, flat_map}
use native.Mathlib.Omega.{arith}
use lib.ListN.{length, get_or, take, drop, replicate, length-take, length-drop, length-append, length-replicate, get_or-map}
use Rattle.rules.specs.Lists.{total, upto}
use Rattle.rules.specs.Plane.{flat}
use Rattle.rules.specs.Boxes.{box_of, stacked, box_numbers}
use Rattle.rules.specs.Chaining.{Piece, nothing, Line}
use Rattle.rules.specs.Types.{width_of}
use Rattle.rules.specs.Layout.{copy, table as table_of}
use Rattle.rules.specs.Refusals.{rooms, entry}
use Rattle.chain_laws.proofs.Counts.{Each, each_get_d, upto_length}
use Rattle.chain_laws.proofs.Drawn.{listing_long}
use Rattle.chain_laws.proofs.Sound.{no_line, Sound}
use Rattle.build_reading.specs.Reading.{ChainRead, read_at, read_all, read_of}
use Rattle.build_reading.proofs.Reading.{Stands, chains_read}
use Rattle.check_laws.proofs.Rows.{upto_at}

map_at : {A B : Type 0} (f : A → B) (l : List A) (i : ℕ) (a : A) (b : B) → i < length l → get_or (map f l) i b ≡ f (get_or l i a)
map_at f [] i a b h = absurd (omega arith)
map_at f (x ∷ l) zero a b h = refl
map_at f (x ∷ l) (suc i) a b h = map_at f l i a b (omega arith)

module _
    (type w : ℕ)
    (wide : w ≡ width_of type)
    (input counts : List ℕ)
    (ls : List Line)
    (ps : List Piece)
    (sound : Each (Sound ls) ps)
    (own : (k : ℕ) → Stands w input (total (take k counts)) (get_or ls k no_line).points)
    (t c x : List ℕ) (q : ℕ) (b : q < length ps) where
  abbrev records : List ℕ
  records = table_of counts 0 0 ps ++ t

  abbrev p : Piece
  p = get_or ps q nothing

  -- whatever stands behind the members and the listings
  read_is : (m d : List ℕ) → read_at type input
      (rooms records (flat_map (λ p. p.lines) ps ++ m) (flat_map (λ p. p.marks) ps ++ []) (flat_map (λ p. p.listing) ps ++ d) (flat w (flat_map copy ps) ++ c)
      (box_numbers (stacked (map (λ p. box_of p.points) ps)) ++ x) [] []) q ≡ read_of w p
  unfolding read_all
  read_is m d =
      let r = rooms records (flat_map (λ p. p.lines) ps ++ m) (flat_map (λ p. p.marks) ps ++ []) (flat_map (λ p. p.listing) ps ++ d) (flat w (flat_map copy ps) ++ c)
      (box_numbers (stacked (map (λ p. box_of p.points) ps)) ++ x) [] [] in
      sym
      (map_at (read_at type input r) (upto (length ps)) q 0 (read_of w nothing) (omega (arith, upto_length (length ps))) ∙ ap (read_at type input r) (upto_at (length ps) q b))
      ∙ ap (λ (l : List ChainRead). get_or l q (read_of w nothing)) (chains_read type w wide input counts ls ps sound own t m [] d c x [] [])
      ∙ get_or-map (read_of w) ps q nothing

  here : Sound ls p
  here = each_get_d (Sound ls) ps q nothing sound b

  -- a record has as many members as its chain: with numbers enough behind them, so many are read
  size_is : entry records q 1 ≡ length p.lines
  unfolding read_at read_of
  size_is =
      let e = entry records q 0 in
      let n = entry records q 1 in
      let k = flat_map (λ p. p.lines) ps in
      let m : List ℕ = replicate (e + n) 0 in
      let r : take n (drop e (k ++ m)) ≡ p.lines = ap (λ (c : ChainRead). c.members) (read_is m []) in
      omega (arith, ap length r, length-take n (drop e (k ++ m)), length-drop e (k ++ m), length-append k m, length-replicate {A = ℕ} (e + n) 0)

  pub listing_read : (d : List ℕ) → take (entry records q 1) (drop (entry records q 0) (flat_map (λ p. p.listing) ps ++ d)) ≡ p.listing
  unfolding read_at read_of
  listing_read d = ap (λ (c : ChainRead). c.listing) (read_is [] d)

  -- and so its lines are inside the listing
  pub listing_inside : (d : List ℕ) → entry records q 0 + entry records q 1 ≤ length (flat_map (λ p. p.listing) ps ++ d)
  listing_inside d =
      let e = entry records q 0 in
      let n = entry records q 1 in
      let k = flat_map (λ p. p.listing) ps in
      omega (
        arith,
        size_is,
        here.full,
        listing_long p here.drawn,
        ap length (listing_read []),
        length-take n (drop e (k ++ [])),
        length-drop e (k ++ []),
        length-append k [],
        length-append k d,
      )
