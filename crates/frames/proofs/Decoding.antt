-- What the code's enum says of a frame: an inversion for each variant.
use Prim.Native.Nat.{ℕ}
use mathlib.Core.Path.{◌≡◌, refl, ap}
use mathlib.Core.List.{List}
use native.Mathlib.Omega.{arith}
use lib.ListN.{length}
use Rattle.cents.specs.declared.KeyNumber.{KeyNumber}
use Rattle.frames.specs.declared.Decoded.TheVariants.{Bad, Letter, Key, Dump, Move, LetterRow}
use Rattle.frames.specs.Frames.{Frame, bad, letter, key, dump, move, letter_row, key_of, decoded_as}
use Rattle.frames.specs.declared.Way.{Way}

-- two different variants are not the same
other : {A : Type 0} → ◌≡◌ {A = ℕ} 0 1 → A
other z = absurd (omega (arith, z))

pub bad_decoded : (f : Frame) → decoded_as f ≡ Bad → f ≡ bad
bad_decoded bad e = refl
bad_decoded (letter h c) e = other cc
bad_decoded (key h k) e = other cc
bad_decoded (dump h) e = other cc
bad_decoded (move w h k) e = other cc
bad_decoded (letter_row h cs) e = other cc

pub letter_decoded : (f : Frame) {house c : ℕ} → decoded_as f ≡ Letter house c → f ≡ letter house c
letter_decoded bad e = other cc
letter_decoded (letter h x) {house} {c} e =
    let same : h ≡ house = cc in
    let too : x ≡ c = cc in
    rw (same, too)
letter_decoded (key h k) e = other cc
letter_decoded (dump h) e = other cc
letter_decoded (move w h k) e = other cc
letter_decoded (letter_row h cs) e = other cc

pub key_decoded : (f : Frame) {house : ℕ} {k : KeyNumber} → decoded_as f ≡ Key house k → f ≡ key house k.0
key_decoded bad e = other cc
key_decoded (letter h x) e = other cc
key_decoded (key h x) {house} {k} e =
    let same : h ≡ house = cc in
    let too : key_of x ≡ k = cc in
    rw (same, ← too)
key_decoded (dump h) e = other cc
key_decoded (move w h k) e = other cc
key_decoded (letter_row h cs) e = other cc

pub dump_decoded : (f : Frame) {house : ℕ} → decoded_as f ≡ Dump house → f ≡ dump house
dump_decoded bad e = other cc
dump_decoded (letter h x) e = other cc
dump_decoded (key h k) e = other cc
dump_decoded (dump h) e = ap dump cc
dump_decoded (move w h k) e = other cc
dump_decoded (letter_row h cs) e = other cc

pub move_decoded : (f : Frame) {way : Way} {house : ℕ} {k : KeyNumber} → decoded_as f ≡ Move way house k → f ≡ move way house k.0
move_decoded bad e = other cc
move_decoded (letter h x) e = other cc
move_decoded (key h x) e = other cc
move_decoded (dump h) e = other cc
move_decoded (move w h x) {way} {house} {k} e =
    let same : h ≡ house = cc in
    let too : key_of x ≡ k = cc in
    let so : w ≡ way = cc in
    rw (same, ← too, so)
move_decoded (letter_row h cs) e = other cc

-- of a row the enum has how many letters it has
pub record IsRow (f : Frame) (house count : ℕ) : Type 0 where
  pub letters : List ℕ
  pub same : f ≡ letter_row house letters
  pub size : length letters ≡ count

pub row_decoded : (f : Frame) {house count : ℕ} → decoded_as f ≡ LetterRow house count → IsRow f house count
row_decoded bad e = other cc
row_decoded (letter h x) e = other cc
row_decoded (key h x) e = other cc
row_decoded (dump h) e = other cc
row_decoded (move w h x) e = other cc
row_decoded (letter_row h cs) {house} {count} e =
    let same : h ≡ house = cc in
    let size : length cs ≡ count = cc in
    record { letters = cs; same = rw same; size = size }
