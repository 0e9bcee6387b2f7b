-- What a sink took of a text.
use Rattle.std.specs.Prelude.{◌≡◌, ℕ, List, ◌++◌, Result, Ok, Err}
use Rattle.block_traits.specs.Streams.{SinkState, TookAll, TookPart}
use Rattle.text_page.specs.declared.print.WriteEnd.{WriteEnd}

-- how a text is printed
abbrev pub Prints : List ℕ → SinkState → Result (Unit {0}) WriteEnd → SinkState → Type 0
Prints text old (Ok done) new = TookAll text old new
Prints text old (Err failed) new = TookPart text old new

-- the text was put after the bytes that a page held: the sink took the first bytes of all these, and the page holds the
-- rest
pub record PutsAll (text held : List ℕ) (old : SinkState) (left : List ℕ) (new : SinkState) : Type 0 where
  pub given : List ℕ
  pub split : held ++ text ≡ given ++ left
  pub took : TookAll given old new

-- the sink failed, and took the first bytes of what the page held followed by the text, and no others
pub record PutsPart (text held : List ℕ) (old new : SinkState) : Type 0 where
  pub part : TookPart (held ++ text) old new

-- how a text is put after the bytes that a page held
abbrev pub Puts : List ℕ → List ℕ → SinkState → Result (Unit {0}) WriteEnd → List ℕ → SinkState → Type 0
Puts text held old (Ok done) left new = PutsAll text held old left new
Puts text held old (Err failed) left new = PutsPart text held old new
