mod FirstMarks
