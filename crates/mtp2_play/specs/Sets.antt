-- The built-in sets, by the words that name them.
use Rattle.std.specs.Prelude.{ℕ, List, Option, Some, None, codes}
use Rattle.mtp2_words.specs.Own.{text_of, word_of}
use Rattle.mtp2_words.specs.declared.requests.Named.{Named}
use Rattle.mtp2_words.specs.declared.requests.Named.TheVariants.{Own, Stdin, File}

-- the text of the built-in set that is named, if it is one
abbrev pub own_text_of : Named → Option (List ℕ)
own_text_of (Own own) = Some (text_of own)
own_text_of Stdin = None
own_text_of (File path) = None

-- the word that names a set
abbrev pub word_text : Named → List ℕ
word_text (Own own) = word_of own
word_text Stdin = codes "stdin"
word_text (File path) = path.now
