-- The two rounds of an accepted call: what each step asks of the one before, and what is left. The ends of round one's walks are grouped before these are laid,
-- and laying them leaves the groups: so round two finds its own, or finds that it has nothing to join, and then what it leaves is what round one leaves.
use Prim.Native.Nat.{ℕ, ◌+◌, ◌-◌, ◌*◌, ◌≤◌, ◌<◌}
use mathlib.Core.Path.{◌≡◌, refl, sym, ap, ◌∙◌, subst}
use mathlib.Core.Bool.{Bool, true}
use mathlib.Core.List.{List, []}
use native.Mathlib.Omega.{arith}
use lib.Dec.{eqb}
use lib.ListN.{length, drop}
use lib.Seq.{drop-drop}
use borrow.Rule.Slice.PartMut.{mid_of, put_mid}
use Rattle.std.specs.Prelude.{Float, Option}
use Rattle.rules.specs.declared.Settings.{Settings}
use Rattle.rules.specs.Answers.{Exact}
use Rattle.rules.specs.Plane.{same_key}
use Rattle.rules.specs.Chaining.{Piece, key_at, cells_of, join, round_one, rule_of}
use Rattle.rules.specs.Layout.{Lines}
use Rattle.rules.specs.Refusals.{line_room}
use Rattle.point_slices.proofs.Laws.{rest_drop}
use Rattle.chain_pieces.specs.Map.{group_block, join_block, taken_block}
use Rattle.chain_grouping.specs.Group.{same_words, words_of, Nodes}
use Rattle.chain_round.specs.Round.{paired_to, RoundWalked, EndsStand, Rounded, GroupedRound}
use Rattle.chain_round.proofs.Joining.{limit_is, grouped_round}
use Rattle.chain_meeting.specs.Map.{meeting_block}
use Rattle.chain_apart.proofs.Rounds.{apart_join}
use Rattle.build_lines.specs.Taken.{plain_of}
use Rattle.build_layout.specs.Laying.{left_of}
use Rattle.build_walks.specs.Walking.{LinesWalkable, LinesWalked}
use Rattle.build_chains.specs.Building.{part_from, Left, Layable, WalksLaid, Second, Twice, AllLeft}
use Rattle.build_chains.proofs.Parts.{mid_length, put_mid_lem, put_behind, put_length}
use Rattle.build_chains.proofs.First.{room₀, plain_fits}
use Rattle.build_chains.proofs.Second.{inner, two_asks, two_left}
use Rattle.build_chains.proofs.Rounds.{two_on, lines_are, second_asks, twice_left}

module _ {width : ℕ} {l : Lines} {s : Settings} {merged spare w₀ : List ℕ} (y : Twice width l s merged spare w₀) where
  abbrev n : ℕ
  n = length l.counts

  abbrev at : ℕ
  at = length l.counts * taken_block

  abbrev k₁ : ℕ
  k₁ = length l.counts * line_room - length l.counts * taken_block

  abbrev first : List Piece
  first = round_one s (plain_of width l)

  -- ---- the walks of round one

  pub walks_ask : LinesWalkable width (length l.counts) l s (mid_of (length l.counts * taken_block) (length l.counts * line_room - length l.counts * taken_block) w₀)
  walks_ask =
      let J = y.buildable in
      record {
        few = J.few;
        counts_long = refl;
        groups_long = J.groups_long;
        kinds_long = J.kinds_long;
        adds = J.adds;
        switched = J.switched;
        room = omega (arith, mid_length w₀ [] at k₁ (room₀ J));
      }

  module _ {sub₁ : List ℕ} {lines number : ℕ} {apart : Bool}
      (size₁ : length sub₁ ≡ length (mid_of (length l.counts * taken_block) (length l.counts * line_room - length l.counts * taken_block) w₀))
      (W : LinesWalked width (length l.counts) l s sub₁ lines number apart) where
    abbrev w₁ : List ℕ
    w₁ = put_mid (length l.counts * taken_block) (length l.counts * line_room - length l.counts * taken_block) w₀ sub₁

    pub part₁ : mid_of (length l.counts * taken_block) (length l.counts * line_room - length l.counts * taken_block) w₁ ≡ sub₁
    part₁ = put_mid_lem w₀ sub₁ at k₁ (room₀ y.buildable) size₁

    pub same₁ : length w₁ ≡ length w₀
    same₁ = put_length w₀ sub₁ at k₁ (room₀ y.buildable) size₁

    rest₁ : drop (n * line_room) w₁ ≡ drop (n * line_room) w₀
    rest₁ = put_behind w₀ sub₁ at k₁ (room₀ y.buildable) size₁ (n * line_room) (omega arith)

    -- they may be laid into any room that is long enough
    pub walks_stand : RoundWalked width (mid_of (length l.counts * taken_block) (length l.counts * line_room - length l.counts * taken_block) w₁) (length l.counts) lines number
        (rule_of Exact s) l.counts (plain_of width l) l.coordinates l.coordinates
    walks_stand =
        subst (λ (v : List ℕ). RoundWalked width v n lines number (rule_of Exact s) l.counts (plain_of width l) l.coordinates l.coordinates) (sym part₁) W.walked

    abbrev pub lay_asks : {out : List ℕ} → length l.coordinates ≤ length out → Layable width (length l.counts) lines number l.coordinates out
        (put_mid (length l.counts * taken_block) (length l.counts * line_room - length l.counts * taken_block) w₀ sub₁)
    lay_asks h =
        record {
          few = y.buildable.few;
          workspace_long = omega (arith, y.buildable.workspace_long, same₁);
          emits = record {
            rule = rule_of Exact s;
            counts = l.counts;
            ps = plain_of width l;
            two = y.buildable.adds.two;
            number = W.lines_are;
            walked = walks_stand;
            fits = omega (arith, plain_fits y.buildable, h);
          };
        }

    module _ {w₂ out out' : List ℕ} (size₂ : length w₂ ≡ length w₁)
        (D : WalksLaid width (length l.counts) number l.coordinates l.counts (join (rule_of Exact s) (plain_of width l)) out' out w₂ w₁) where
      left₁ : Left width n l.coordinates l.counts first at number out' out w₂ w₀
      unfolding round_one
      left₁ =
          let R = D.emitted.rounded in
          record { within = omega arith; held = R.held; number_is = R.number; copied_is = R.merged_is; rest = D.rest ∙ rest₁ }

      ends_are : number * 2 ≡ 2 * length first
      unfolding round_one
      ends_are = omega (arith, D.emitted.rounded.number)

      keys₁ : (e f : ℕ) → e < number * 2 → f < number * 2
          → same_words (words_of (drop (n * meeting_block) sub₁) (number * 2) e) (words_of (drop (n * meeting_block) sub₁) (number * 2) f)
          ≡ same_key (key_at (rule_of (cells_of s) s) first e) (key_at (rule_of (cells_of s) s) first f)
      unfolding round_one
      keys₁ = W.met.keys

      -- ---- nothing to join

      pub apart_left : out ≡ merged → apart ≡ true → AllLeft width l s (length l.counts * taken_block) number lines out' merged spare spare w₂ w₀
      unfolding round_one
      apart_left o t =
          let nothing-joined : join (rule_of (cells_of s) s) first ≡ first =
          apart_join (rule_of (cells_of s) s) first (drop (n * meeting_block) sub₁) (number * 2) (eqb s.switch 1) s.limit ends_are W.met.nodes keys₁ (limit_is s)
          D.emitted.rounded.held.drawn (sym W.apart_is ∙ t) in
          record {
            left =
                subst (λ (m : List ℕ). Left width n l.coordinates l.counts (left_of width s l) at number out' m w₂ w₀) o
                (subst (λ (ps : List Piece). Left width n l.coordinates l.counts ps at number out' out w₂ w₀) (sym nothing-joined ∙ two_on s first y.above) left₁);
            lines_are = lines_are y.buildable W.lines_are;
            spare_rest = refl;
          }

      -- ---- round two

      pub same₂ : length w₂ ≡ length w₀
      same₂ = size₂ ∙ same₁

      module _ (o : out ≡ spare) where
        pub left₂ : Left width n l.coordinates l.counts first at number out' spare w₂ w₀
        left₂ = subst (λ (m : List ℕ). Left width n l.coordinates l.counts first at number out' m w₂ w₀) o left₁

        unfoldable pub second : Second width (length l.counts) number s l.coordinates l.groups out' merged w₂
        second = second_asks y.buildable y.spare_long same₂ left₂ refl W.lines_are

        -- where round two looks for its groups, those of the walks' ends stand
        groups_there : drop (n * group_block) (mid_of 0 (n * line_room - 0) w₂) ≡ drop (n * meeting_block) sub₁
        groups_there =
            let p : n * taken_block + n * meeting_block ≡ n * group_block = omega arith in
            ap (λ (i : ℕ). drop i (mid_of 0 (n * line_room - 0) w₂)) (sym p)
            ∙ sym (drop-drop (n * meeting_block) (n * taken_block) (mid_of 0 (n * line_room - 0) w₂))
            ∙ ap (drop (n * meeting_block)) (inner second)
            ∙ rest_drop (part_from n at w₂) (part_from n at w₁) (n * join_block) D.emitted.rest (n * meeting_block) (omega arith)
            ∙ ap (drop (n * meeting_block)) part₁

        pub ends_stand : EndsStand width (mid_of 0 (n * line_room - 0) w₂) n (number * 2) (rule_of (cells_of s) s) l.counts first l.coordinates out'
        unfolding second two_asks second_asks
        ends_stand =
            record {
              room = (two_asks second).walkable.rounding.room;
              held = (two_asks second).walkable.rounding.held;
              nodes = subst (λ (v : List ℕ). Nodes v v (number * 2)) (sym groups_there) W.met.nodes;
              keys =
                  subst (λ (v : List ℕ). (e f : ℕ) → e < number * 2 → f < number * 2
                  → same_words (words_of v (number * 2) e) (words_of v (number * 2) f) ≡ same_key (key_at (rule_of (cells_of s) s) first e) (key_at (rule_of (cells_of s) s) first f))
                  (sym groups_there) keys₁;
            }

        unfoldable pub grouped : {t : Option Float} → t ≡ paired_to s → GroupedRound width (mid_of 0 (length l.counts * line_room - 0) w₂) (length l.counts) number t l.coordinates out' merged
        unfolding second two_asks second_asks
        grouped q = grouped_round (cells_of s) q (two_asks second) ends_stand

        pub both_left : {r : ℕ} {sub₃ merged' : List ℕ} → length sub₃ ≡ length (mid_of 0 (length l.counts * line_room - 0) w₂)
            → Rounded width sub₃ (mid_of 0 (length l.counts * line_room - 0) w₂) (length l.counts) r l.coordinates merged' merged l.counts (join (rule_of (cells_of s) s) (round_one s (plain_of width l)))
            → AllLeft width l s 0 r lines merged' merged out' spare (put_mid 0 (length l.counts * line_room - 0) w₂ sub₃) w₀
        unfolding second two_asks second_asks
        both_left z R = twice_left y.buildable y.spare_long same₂ left₂ refl W.lines_are y.above (two_left second z R)
