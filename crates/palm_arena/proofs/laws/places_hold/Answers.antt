use Rattle.palm_arena.proofs.Standing.{put_stands, others_stay}
use Rattle.palm_arena.proofs.laws.places_hold.Goals as goal

pub returns : goal.returns
returns c = record { put = put_stands; others = others_stay }
