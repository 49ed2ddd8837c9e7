use Rattle.ec_select.proofs.ProgramWords.{selections_have_words}
use Rattle.ec_select.proofs.laws.selections_have_words.Goals as goal

pub returns : goal.returns
returns c = selections_have_words (record {
  words = record {
    values = c.values_are_straight.ensures.words;
    complements = c.complements_are_straight.ensures.words;
    relations = c.relations_have_words.ensures;
    products = c.products_have_words.ensures;
    shifts = c.shifts_have_words.ensures;
    fixed_binaries = c.fixed_binaries_are_short.ensures;
    fixed_unaries = c.fixed_unaries_are_short.ensures;
    fixed_conversions = c.fixed_conversions_are_short.ensures;
    pointers = c.pointers_are_straight.ensures.words;
    tables = c.tables_are_formed.ensures.short;
    far_pointers = c.far_pointers_are_straight.ensures.words;
    steps = c.places_are_short.ensures.steps;
    indexes = c.indexes_are_formed.ensures.short;
    far_steps = c.far_places_are_formed.ensures.steps;
    conversions = c.places_are_short.ensures.conversions;
    elements = c.elements_are_formed.ensures.short;
    numbers = c.numbers_are_operands.ensures.straight;
    puts = c.numbers_are_operands.ensures.put_straight;
  };
  routines = record {
    binary = c.routines_have_words.ensures.binary;
    unary = c.routines_have_words.ensures.unary;
    conversion = c.routines_have_words.ensures.conversion;
    calls = c.routines_have_words.ensures.calls;
  };
  startup = c.startup_has_words.ensures;
})
