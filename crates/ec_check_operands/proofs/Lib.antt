mod Least
