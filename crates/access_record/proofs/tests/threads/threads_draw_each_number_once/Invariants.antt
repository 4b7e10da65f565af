use Rattle.access_record.proofs.tests.threads.threads_draw_each_number_once.Given as goal

abbrev pub ghosts-note_all : goal.ghosts-note_all
ghosts-note_all g a = record { book = a.book }
