-- `tables::decode::changes_of` meets its contract. Assumes nothing.
use Rattle.std.proofs.Common.{◌≡◌, List, sym, ap, ◌∙◌, ℕ, length}
use Rattle.tuning.specs.State.{places}
use Rattle.tuning.specs.declared.ToneChange.{ToneChange}
use Rattle.tuning.specs.declared.ToneChange.TheVariants.{Mute}
use Rattle.tuning.specs.declared.ToneChanges.{ToneChanges}
use Rattle.tables.proofs.Lists.{joined_length}
use Rattle.tables.specs.Layout.{change_of, joined, full}
use Rattle.tables.proofs.decode.changes_of.Goals as goal

pub returns : goal.returns
returns c =
    let ks = c.args.kinds.now in
    let zs = c.args.changes.now in
    let list = joined change_of ks zs in
    let count : length zs ≡ length list = sym (joined_length change_of ks zs c.requires.0 ∙ c.requires.0) in
    let all : c.places_of.result ≡ full Mute places list = c.places_of.ensures change_of (λ k z x e. e) in
    let held : ℕ → List ToneChange → ToneChanges = λ n ps. record { count = n; positions = ps } in
    ap (held (length zs)) all ∙ ap (λ (n : ℕ). held n (full Mute places list)) count
