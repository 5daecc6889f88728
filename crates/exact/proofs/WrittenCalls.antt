-- A call acts, on the desk and in the book, as the retuning with its numbers written in. Assumes nothing.
use mathlib.Core.Path.{◌∙◌, ap}
use Rattle.tuning.specs.Desk.{cents}
use Rattle.program.specs.Meaning.{value_of}
use Rattle.program.specs.WrittenIn.{CallsWritten}
use Rattle.program.proofs.WrittenIn.{calls_written}
use Rattle.protocol.specs.Steps.{by_action}
use Rattle.exact.specs.Book.{entries}
use Rattle.exact.specs.Actions.{action_of, entry_of}
use Rattle.exact.specs.TextCalls.{CallsOfText}
use Rattle.exact.specs.WrittenCalls.{WrittenCalls}
use Rattle.exact.proofs.TextCalls.{calls_of_text}

pub written_calls : WrittenCalls
unfolding WrittenCalls CallsWritten CallsOfText
written_calls text p e j q k h s r =
    let w = calls_written text p e j q k h s r in
    record {
      called = w.called;
      names = w.names;
      desk = λ house d v n. calls_of_text text p e house d v n w.called ∙ ap (λ x. by_action house d (action_of cents (value_of p) (value_of p) x)) w.acts;
      book = ap (λ x. action_of entries (entry_of p) (entry_of p) x) w.acts;
    }
