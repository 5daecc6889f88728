-- Demand 3 as one claim: the desk and the book after a stream, and the pitch that the bytes of the next answer of kind 02 tell. It is proved in the tighter
-- comparison of document 02, 10/13, and document 01's follows. Assumes nothing.
use Rattle.tuning.specs.Tuning.{sound_of}
use Rattle.filling.specs.Tables.{tables_of}
use Rattle.protocol.specs.Answers.{start_desk, sound_at}
use Rattle.protocol.specs.Unplayable.{told_of}
use Rattle.protocol.specs.Streams.{desk_after}
use Rattle.exact.specs.Entry.{Within, Sharper}
use Rattle.exact.specs.Book.{entries}
use Rattle.exact.specs.Actions.{declared_in}
use Rattle.exact.specs.Claim.{book_after, DemandThree, TighterDistance}
use Rattle.exact.proofs.Agreement.{sharper_within, claimed_by}
use Rattle.exact.proofs.Claim.{stream_sharper}
use Rattle.exact.proofs.Told.{stream_told, sound_told}

pub tighter_distance : TighterDistance
unfolding TighterDistance
tighter_distance text p e stream =
    record {
      state = stream_sharper text p e stream;
      answer = λ house key room a b c h.
          record {
            told = told_of (sound_at (desk_after (tables_of p) start_desk stream) key);
            line = (stream_told house key a b c text p e stream room h).told;
            agrees = sound_told Sharper (declared_in p) (sound_of entries (book_after p stream) key) _ ((stream_sharper text p e stream).key key);
          };
    }

-- 51 hundredths suffice for the thousandth
pub demand_three : DemandThree
unfolding DemandThree TighterDistance
demand_three = claimed_by Sharper Within sharper_within tighter_distance
