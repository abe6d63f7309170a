use Rattle.std.proofs.Common.{◌≡◌, ◌≢◌, ◌∙◌, ◌∷◌, [], ℕ, List, Some, ap, ap₂, arith, ◌<◌, ◌^◌, codes}
use Rattle.std.specs.Fmt.{decimal}
use Rattle.csv.specs.declared.writer.QuoteStyle.TheVariants as style
use Rattle.palm_base.specs.Text.{digits_text}
use Rattle.palm_deck.proofs.Written.{header_is, line_added}
use Rattle.palm_deck.proofs.write.write_deck.Goals as goal

pub loop-i-init : goal.loop-i-init
loop-i-init c =
    let from = c.from_writer-writer.ensures in
    let plain : c.from_writer-writer.result.cfg.style ≢ style.NonNumeric = rw from.cfg (λ e. cc e) in
    let bytes = c.in-Ok.ensures.bytes from.fields from.wrote plain in
    let text = rw (from.cfg, from.wtr, c.new.ensures.items, from.empty) at bytes in
    record {
      text = ap (λ (l : List ℕ). Some l) (text ∙ header_is);
      setup = c.in-Ok.ensures.setup ∙ from.cfg;
      fields = c.in-Ok.ensures.ended;
      wrote = c.in-Ok.ensures.clean;
    }

pub loop-i-preserved : goal.loop-i-preserved
loop-i-preserved c =
    let inv = c.loop-i.invariant in
    let row = c.get-row.result in
    let plain : c.loop-i.writer.cfg.style ≢ style.NonNumeric = rw inv.setup (λ e. cc e) in
    let bytes = rw inv.setup at (c.in-Ok-write_fields.ensures.bytes inv.fields inv.wrote plain) in
    let prefix : c.as_slice.result.now ≡ digits_text row.prefix = c.as_slice.ensures.value ∙ c.in_ok-spell_prefix.ensures.ok in
    let rate : c.as_slice-in-loop-i.result.now ≡ decimal row.rate = c.as_slice-in-loop-i.ensures.value ∙ c.in_ok-spell_rate.ensures.ok in
    let fields = ap₂ (λ (p r : List ℕ). codes "set" ∷ p ∷ r ∷ []) prefix rate in
    let small : row.rate < 2 ^ 64 = omega (arith, c.spell_rate.ensures.most) in
    record {
      text = line_added _ _ c.args.rows.now c.loop-i.i row (codes "set" ∷ c.as_slice.result.now ∷ c.as_slice-in-loop-i.result.now ∷ []) c.get-row.ensures inv.text bytes fields c.spell_prefix.ensures.prefix small;
      setup = c.in-Ok-write_fields.ensures.setup ∙ inv.setup;
      fields = c.in-Ok-write_fields.ensures.ended;
      wrote = c.in-Ok-write_fields.ensures.clean;
    }
