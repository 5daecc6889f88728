-- `tables::decode::system_of` meets its contract. Assumes nothing.
use Rattle.std.proofs.Common.{◌≡◌, List, sym, ap, ◌∙◌, ℕ, length}
use Rattle.tuning.specs.State.{places}
use Rattle.tuning.specs.declared.Tone.{Tone}
use Rattle.tuning.specs.declared.Tone.TheVariants.{Muted}
use Rattle.tables.proofs.Lists.{joined_length}
use Rattle.tables.proofs.Systems.{holding, holding_all}
use Rattle.tables.specs.Layout.{tone_of, joined, full}
use Rattle.tables.proofs.decode.system_of.Goals as goal

pub returns : goal.returns
returns c =
    let ks = c.args.sounding.now in
    let zs = c.args.tones.now in
    let tones = joined tone_of ks zs in
    let width : length zs ≡ length tones = sym (joined_length tone_of ks zs c.requires.0 ∙ c.requires.0) in
    let all : c.places_of.result ≡ full Muted places tones = c.places_of.ensures tone_of (λ k z x e. e) in
    ap (λ (l : List Tone). record { anchor = c.args.anchor; width = length zs; tones = l; period = c.args.period }) all
    ∙ ap (λ (w : ℕ). holding c.args.anchor w c.args.period tones) width
    ∙ holding_all c.args.anchor c.args.period tones
