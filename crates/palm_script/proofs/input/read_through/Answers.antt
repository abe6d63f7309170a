use Rattle.std.proofs.Common.{arith}
use Rattle.palm_script.proofs.Streams.{one_more, read_more}
use Rattle.palm_script.proofs.input.read_through.Goals as goal

pub returns-in_err-extend_from_slice-in-Ok-clause-front : goal.returns-in_err-extend_from_slice-in-Ok-clause-front
returns-in_err-extend_from_slice-in-Ok-clause-front g c = read_more _ _ _ _ _ c.loop-bytes.invariant.bytes c.in-Ok.ensures.bytes.0

pub returns-clause-read : goal.returns-clause-read
returns-clause-read g c =
    let kept = one_more _ _ c.loop-bytes.bytes.items _ 67_108_864 c.loop-bytes.invariant.bytes (omega (arith, c.loop-bytes.invariant.most, c.loop-bytes.bytes.ok.0)) c.truncate.ensures.items in
    (kept.0, kept.1, kept.2, kept.3, c.loop-bytes.invariant.faults)
