-- A stream on its way: what was written before changes nothing of what is written after it, so parts of the way go one behind the other.
use Rattle.std.proofs.Common.{◌≡◌, refl, sym, ap, subst, ◌∙◌, Bool, true, false, cond, List, [], ◌∷◌, ◌++◌, append_assoc, append-nil, ℕ, arith, eqb, length}
use Rattle.hexadecimal.specs.Lines.{line_feed}
use Rattle.tables.specs.Layout.{Tables}
use Rattle.protocol.specs.declared.Desk.{Desk}
use Rattle.stream.specs.Feed.{Fed, feed, line_ended, fed_byte, fed, finished, streamed, SameStream}
use Rattle.sitedesk.specs.Serving.{Ending, Came}

-- the same behind what was written before
abbrev behind : List ℕ → Fed → Fed
behind w f = feed f.desk f.line (w ++ f.out)

module _ (t : Tables) (w : List ℕ) where
  ended_behind : (d : Desk) (l out : List ℕ) → line_ended t (feed d l (w ++ out)) ≡ behind w (line_ended t (feed d l out))
  ended_behind d l out = ap (λ (o : List ℕ). feed (line_ended t (feed d l out)).desk [] o) (append_assoc w out _)

  streamed_behind : (d : Desk) (l out bs : List ℕ) → streamed t (feed d l (w ++ out)) bs ≡ behind w (streamed t (feed d l out) bs)
  unfolding fed fed_byte finished
  streamed_behind d [] out [] = refl
  streamed_behind d (a ∷ l) out [] = ended_behind d (a ∷ l) out
  streamed_behind d l out (b ∷ bs) = go (eqb b line_feed) (λ e k o. streamed_behind e k o bs)
    where
      go : (x : Bool) → ((e : Desk) (k o : List ℕ) → streamed t (feed e k (w ++ o)) bs ≡ behind w (streamed t (feed e k o) bs))
          → streamed t (cond x (line_ended t (feed d l (w ++ out))) (feed d (l ++ b ∷ []) (w ++ out))) bs
          ≡ behind w (streamed t (cond x (line_ended t (feed d l out)) (feed d (l ++ b ∷ []) out)) bs)
      go true again = ap (λ (f : Fed). streamed t f bs) (ended_behind d l out) ∙ again _ [] _
      go false again = again d (l ++ b ∷ []) out

-- the end of a stream where no line is held, and where one is, which is given its line feed
pub no_line : (held : List ℕ) → held ≡ [] → Ending (length held) []
unfolding fed finished
no_line held h t d [] out e = refl
no_line held h t d (a ∷ line) out e = absurd (omega (arith, ap length h))

pub line_closed : (held : List ℕ) → (held ≡ [] → ⊥) → Ending (length held) (line_feed ∷ [])
unfolding fed fed_byte finished
line_closed [] h t d line out e = absurd (h refl)
line_closed (a ∷ held) h t d [] out e = absurd (omega arith)
line_closed (a ∷ held) h t d (b ∷ line) out e = refl

module _ {t : Tables} {d : Desk} {line bs : List ℕ} where
  -- at the beginning of the way nothing is written
  pub not_begun : Came t d line bs d line bs
  not_begun = record { written = []; same = λ more. refl }

  -- a part of the way behind another
  pub further : {e e' : Desk} {rest rest' cs cs' : List ℕ} (out : List ℕ) → Came t d line bs e rest cs
      → SameStream t (feed e rest []) cs (feed e' rest' out) cs' → Came t d line bs e' rest' cs'
  further {e} {e'} {rest} {rest'} {cs} {cs'} out g s = record {
    written = g.written ++ out;
    same = λ more.
        streamed_behind t g.written e' rest' out (cs' ++ more)
        ∙ ap (behind g.written) (s more)
        ∙ sym (streamed_behind t g.written e rest [] (cs ++ more))
        ∙ ap (λ (o : List ℕ). streamed t (feed e rest o) (cs ++ more)) (append-nil g.written)
        ∙ g.same more;
  }

  -- no byte of a chunk is left
  pub arrived : {e : Desk} {rest : List ℕ} (left : List ℕ) → left ≡ [] → Came t d line bs e rest left → Came t d line bs e rest []
  arrived {e} {rest} left h g = subst (λ (cs : List ℕ). Came t d line bs e rest cs) h g
