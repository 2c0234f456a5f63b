-- The walk of a program whose words and lists are as they were when it began; seek arguments are as
-- they are. It is all that is frozen of a program for a device that takes no bytes of a seek.
use Rattle.s370_store.specs.Memory.{Memory}
use Rattle.s370_walk.specs.Walk.{Form}

-- the form whose words are read as they were in another memory
abbrev pub words_frozen : Form → Memory → Form
words_frozen form m0 = record {
  text = λ _ a. form.text m0 a;
  place = λ _ p. form.place m0 p;
  load = form.load;
}
