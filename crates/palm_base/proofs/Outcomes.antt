-- What becomes of a node: sound pieces in order, and loose rows that make the table again when they are put back.
use Rattle.std.proofs.Common.{◌≡◌, ℕ, zero, suc, ◌+◌, Bool, true, false, cond, List, [], ◌++◌, length, refl, ap, arith, ◌∙◌}
use Rattle.std.specs.List.{AllByRecursion}
use Rattle.std.proofs.lemmas.List.{length-append}
use Rattle.palm_base.specs.Cut.{cut}
use Rattle.palm_base.specs.Table.{row_key}
use Rattle.palm_base.specs.Pass.{Outcome, rows_under, node_over, leaves_of, nodes_over, is_small, leaf_outcome, inner_outcome}
use Rattle.palm_base.specs.Lawful.{RowIsIn, Rising, next_low, InOrder}
use Rattle.palm_base.specs.declared.bounds.TheConstants.{LEAST_LEAF_ROWS, MOST_LEAF_ROWS, LEAST_CHILDREN, MOST_CHILDREN}
use Rattle.palm_base.proofs.Every.{every_append}
use Rattle.palm_base.proofs.Cuts.{pieces_join}
use Rattle.palm_base.proofs.CutParts.{cut_parts}
use Rattle.palm_base.proofs.RisingRows.{rising_range, put_all, put_all_append, put_all_none}
use Rattle.palm_base.proofs.SoundNodes.{low_of, leaves_in_order, nodes_in_order, first_has_low, rows_of_leaves, rows_of_nodes, in_order_rises}
use Rattle.palm_base.specs.declared.row.Row.{Row}

-- The outcome holds the table between the bounds: its pieces are in order, its loose rows lie between the bounds too,
-- and put back they make the table, of which each row is in one of both.
pub record Holds (n l h : ℕ) (table : List Row) (outcome : Outcome n) : Type 0 where
  pub pieces : InOrder n l h outcome.pieces
  pub loose : AllByRecursion (RowIsIn l h) outcome.loose
  pub rows : put_all (rows_under n outcome.pieces) outcome.loose ≡ table
  pub count : length (rows_under n outcome.pieces) + length outcome.loose ≡ length table

-- The same of one node, of which the first piece keeps the low.
pub record KeepsLow (n l h low : ℕ) (table : List Row) (outcome : Outcome n) : Type 0 where
  pub holds : Holds n l h table outcome
  pub kept : next_low low_of low outcome.pieces ≡ low

pub leaf_keeps_low : (l h low : ℕ) (rows : List Row) → Rising l h rows → KeepsLow zero l h low rows (leaf_outcome low rows)
leaf_keeps_low l h low rows rise = by (is_small LEAST_LEAF_ROWS rows) refl
  where
    by : (b : Bool) → is_small LEAST_LEAF_ROWS rows ≡ b
        → KeepsLow zero l h low rows (cond b (record { pieces = []; loose = rows }) (record { pieces = leaves_of low rows; loose = [] }))
    by true small = record {
      holds = record { pieces = tt; loose = rising_range l h rows rise; rows = put_all_none l h rows rise; count = omega arith };
      kept = refl;
    }
    by false enough =
        let whole = pieces_join MOST_LEAF_ROWS rows (omega arith) in
        let same = rows_of_leaves low (cut MOST_LEAF_ROWS rows) ∙ whole in
        record {
          holds = record {
            pieces = leaves_in_order low l h (cut MOST_LEAF_ROWS rows) (cut_parts LEAST_LEAF_ROWS rows (omega arith) enough) (rw whole rise);
            loose = tt;
            rows = same;
            count = rw same (omega arith);
          };
          kept = first_has_low row_key (λ part. part) low (cut MOST_LEAF_ROWS rows);
        }

pub inner_keeps_low : (n l h low : ℕ) (table : List Row) (left : Outcome n) → Holds n l h table left
    → KeepsLow (suc n) l h low table (inner_outcome n low left)
inner_keeps_low n l h low table left holds = by (is_small LEAST_CHILDREN left.pieces) refl
  where
    by : (b : Bool) → is_small LEAST_CHILDREN left.pieces ≡ b
        → KeepsLow (suc n) l h low table
        (cond b (record { pieces = []; loose = rows_under n left.pieces ++ left.loose })
        (record { pieces = nodes_over low left.pieces; loose = left.loose }))
    by true small =
        let rise = in_order_rises n l h left.pieces holds.pieces in
        record {
          holds = record {
            pieces = tt;
            loose = every_append (RowIsIn l h) (rows_under n left.pieces) left.loose (rising_range l h (rows_under n left.pieces) rise) holds.loose;
            rows = put_all_append [] (rows_under n left.pieces) left.loose
                ∙ ap (λ rows. put_all rows left.loose) (put_all_none l h (rows_under n left.pieces) rise) ∙ holds.rows;
            count = let count = holds.count in simp length-append (omega arith);
          };
          kept = refl;
        }
    by false enough =
        let parts = cut MOST_CHILDREN left.pieces in
        let whole = pieces_join MOST_CHILDREN left.pieces (omega arith) in
        let same = rows_of_nodes n low parts ∙ ap (rows_under n) whole in
        record {
          holds = record {
            pieces = nodes_in_order n low l h parts (cut_parts LEAST_CHILDREN left.pieces (omega arith) enough) (rw whole holds.pieces);
            loose = holds.loose;
            rows = ap (λ rows. put_all rows left.loose) same ∙ holds.rows;
            count = ap (λ rows. length rows + length left.loose) same ∙ holds.count;
          };
          kept = first_has_low low_of node_over low parts;
        }
