mod Hits
