use Rattle.std.proofs.Common.{◌≡◌, ℕ, suc, ◌<◌, ◌≤◌, leb, List, [], ◌++◌, length, take, drop, set, ap, sym, subst, ◌∙◌, arith, add-one}
use Rattle.std.proofs.Math.Seq.{take-append_seam}
use Rattle.std.proofs.lemmas.List.{length-set, length-take}
use Rattle.std.proofs.lemmas.List.Sums.{count_by-le-length}
use Rattle.std.specs.List.{AllByRecursion, refill, insert}
use Rattle.palm_base.specs.Key.{IsKey}
use Rattle.palm_base.specs.Table.{IsTable, put}
use Rattle.palm_base.specs.declared.call.Call.TheVariants.{Set}
use Rattle.palm_base.proofs.Keys.{is_key}
use Rattle.palm_base.proofs.Tables.{calls_keep_tables}
use Rattle.palm_node.specs.LeafRows.{opened, rows_of}
use Rattle.palm_node.proofs.HeldRows.{place_within}
use Rattle.palm_node.proofs.PutRows.{rows_opened, rows_written, keys_opened}
use Rattle.palm_node.proofs.leaf.put_row.Goals as goal

-- A list that was written is that list, whatever it was filled up with.
whole : (n : ℕ) (old ws : List ℕ) → length ws ≡ n → refill n old ws ≡ ws
whole n old ws long = rw (sym long) (take-append_seam ws (drop (length ws) old))

pub returns-in-Some-clause-rows : goal.returns-in-Some-clause-rows
returns-in-Some-clause-rows c =
    let keys = c.args.keys.now in
    let rates = c.args.rates.now.items in
    let row = c.args.row in
    let place = c.in-Some.place in
    let held = c.requires.held in
    let found = rw c.len-len.ensures.value at c.in-Some.ensures.found in
    let now = ap (λ l. set l place row.rate) c.deref_mut.ensures.value in
    ap (λ l. rows_of keys (refill (length rates) rates l)) now
    ∙ ap (rows_of keys) (whole (length rates) rates (set rates place row.rate) (length-set rates place row.rate))
    ∙ rows_written keys rates place row c.key-key.result (omega (arith, held.room, held.few)) held.prefixes held.table c.key-key.ensures.prefix c.key-key.ensures.key found

pub returns-in-Some-clause-held : goal.returns-in-Some-clause-held
returns-in-Some-clause-held c =
    let rates = c.args.rates.now.items in
    let row = c.args.row in
    let place = c.in-Some.place in
    let held = c.requires.held in
    let long = length-set rates place row.rate in
    let now = ap (λ l. refill (length rates) rates (set l place row.rate)) c.deref_mut.ensures.value ∙ whole (length rates) rates (set rates place row.rate) long in
    let many = ap length now ∙ long in
    record {
      room = held.room;
      few = omega (arith, held.few, many);
      prefixes = rw many held.prefixes;
      table = subst IsTable (sym (returns-in-Some-clause-rows c)) (calls_keep_tables _ (Set row.prefix row.rate) held.table);
    }

pub returns-in-None-clause-rows : goal.returns-in-None-clause-rows
returns-in-None-clause-rows c =
    let keys = c.args.keys.now in
    let rates = c.args.rates.now.items in
    let row = c.args.row in
    let place = c.count_at_most-place.result in
    let k = c.key-key.result in
    let held = c.requires.held in
    let none = rw c.len-len.ensures.value at c.in-None.ensures.none in
    let at = rw c.len-len.ensures.value at c.count_at_most-place.ensures in
    ap (λ ks. rows_of ks c.insert.new.self.items) c.insert_key.ensures
    ∙ ap (λ n. rows_of (opened keys place n k) c.insert.new.self.items) c.len-len.ensures.value
    ∙ ap (rows_of (opened keys place (length rates) k)) c.insert.ensures.items
    ∙ rows_opened keys rates place row k (omega (arith, held.room, c.requires.room)) held.prefixes held.table c.key-key.ensures.prefix c.key-key.ensures.key none at

pub returns-in-None-clause-held : goal.returns-in-None-clause-held
returns-in-None-clause-held c =
    let keys = c.args.keys.now in
    let rates = c.args.rates.now.items in
    let row = c.args.row in
    let place = c.count_at_most-place.result in
    let k = c.key-key.result in
    let held = c.requires.held in
    let at = rw c.len-len.ensures.value at c.count_at_most-place.ensures in
    let within : place ≤ length rates = omega (arith, at, count_by-le-length (λ a. leb a k) (take (length rates) keys), length-take (length rates) keys) in
    let put_in = c.insert_key.ensures ∙ ap (λ n. opened keys place n k) c.len-len.ensures.value in
    record {
      room = c.insert_key.array_long;
      few = omega (arith, c.insert.ensures.len, c.requires.room);
      prefixes = rw (c.insert.ensures.len, put_in, add-one) (keys_opened keys (length rates) place k (omega (arith, held.room, c.requires.room)) within (is_key k row.prefix c.key-key.ensures.prefix c.key-key.ensures.key) held.prefixes);
      table = subst IsTable (sym (returns-in-None-clause-rows c)) (calls_keep_tables _ (Set row.prefix row.rate) held.table);
    }
