-- The heaps of a whole game's presentation written out, and how many of them are enough. The bound compares with Plambeck
-- and Siegel's periodicity theorem for misère quotients, and Guy and Smith's for normal play.
use Rattle.std.specs.Prelude.{ℕ, ◌+◌, ◌-◌, List, map, length, Option}
use Rattle.std.specs.List.{range_with_len}
use Rattle.misere_theory.specs.Pairs.{heap_bound}
use Rattle.presented_text.specs.Said.{PresentedSaid}
use Rattle.presented_claims.specs.Claims.{listed_heap, listed_word}

-- The word of each heap, or none.
abbrev pub said_word : PresentedSaid → ℕ → Option (List ℕ)
said_word c n = listed_word c (listed_heap c n)

-- The same presentation of the heaps 1 to B alone, with a word for each in the list.
abbrev pub unrolled : PresentedSaid → ℕ → PresentedSaid
unrolled c B =
    record {
      code = c.code;
      heaps = B;
      period = 0;
      letters = c.letters;
      words = map (said_word c) (range_with_len 1 B);
      relations = c.relations;
      cycles = c.cycles;
      portion = c.portion;
    }

-- The heap from which on the words repeat.
abbrev pub repeats_from : PresentedSaid → ℕ
repeats_from c = c.heaps - c.period + 1

-- So many heaps are enough: each larger one has the word of one of these, and options with the same words.
abbrev pub enough_heaps : PresentedSaid → ℕ
enough_heaps c = heap_bound c.code (length c.code - 1) (repeats_from c) c.period
